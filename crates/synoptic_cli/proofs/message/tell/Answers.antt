use Rattle.synoptic_cli.proofs.message.tell.Goals as goal

pub returns-in-Usage : goal.returns-in-Usage
returns-in-Usage g c = rw c.in-Usage.is c.tell_text.ensures

pub returns-in-Expressions : goal.returns-in-Expressions
returns-in-Expressions g c = rw c.in-Expressions.is c.tell_rule_error.ensures

pub returns-in-ReadFault : goal.returns-in-ReadFault
returns-in-ReadFault g c = rw c.in-ReadFault.is c.tell_read_fault.ensures

pub returns-in-WriteFault : goal.returns-in-WriteFault
returns-in-WriteFault g c = rw c.in-WriteFault.is c.tell_text-in-WriteFault.ensures

pub returns-in-Memory : goal.returns-in-Memory
returns-in-Memory g c = rw c.in-Memory.is c.tell_text-in-Memory.ensures

pub returns-in-ModelFile : goal.returns-in-ModelFile
returns-in-ModelFile g c = rw c.in-ModelFile.is c.tell_file_error.ensures
