use Rattle.synoptic_cli.proofs.message.tell_file_error.Goals as goal

pub returns-in-TooLong : goal.returns-in-TooLong
returns-in-TooLong g c = rw c.in-TooLong.is c.tell_file_fault.ensures

pub returns-in-NotJson : goal.returns-in-NotJson
returns-in-NotJson g c = rw c.in-NotJson.is c.tell_file_fault-in-NotJson.ensures

pub returns-in-Shape : goal.returns-in-Shape
returns-in-Shape g c = rw (c.in-Shape.is, ← c.field_name.ensures) c.tell_file_fault-in-Shape.ensures

pub returns-in-Version : goal.returns-in-Version
returns-in-Version g c = rw (c.in-Version.is, ← c.format.ensures.text) c.tell_file_fault-in-Version.ensures

pub returns-in-Memory : goal.returns-in-Memory
returns-in-Memory g c = rw c.in-Memory.is c.tell_file_fault-in-Memory.ensures
