use Rattle.synoptic_cli.proofs.message.tell_rule_error.Goals as goal

pub returns-in-TooLong : goal.returns-in-TooLong
returns-in-TooLong g c = rw c.in-TooLong.is c.tell_text.ensures

pub returns-in-BadLine : goal.returns-in-BadLine
returns-in-BadLine g c = rw c.in-BadLine.is c.tell_rule_line.ensures

pub returns-in-TooMany : goal.returns-in-TooMany
returns-in-TooMany g c = rw c.in-TooMany.is c.tell_rule_line-in-TooMany.ensures

pub returns-in-Syntax : goal.returns-in-Syntax
returns-in-Syntax g c = rw c.in-Syntax.is c.tell_rule_line-in-Syntax.ensures

pub returns-in-TooLarge : goal.returns-in-TooLarge
returns-in-TooLarge g c = rw c.in-TooLarge.is c.tell_rule_line-in-TooLarge.ensures

pub returns-in-NoType : goal.returns-in-NoType
returns-in-NoType g c = rw c.in-NoType.is c.tell_rule_line-in-NoType.ensures

pub returns-in-MixedTime : goal.returns-in-MixedTime
returns-in-MixedTime g c = rw c.in-MixedTime.is c.tell_rule_line-in-MixedTime.ensures

pub returns-in-NoEvent : goal.returns-in-NoEvent
returns-in-NoEvent g c = rw c.in-NoEvent.is c.tell_text-in-NoEvent.ensures

pub returns-in-Memory : goal.returns-in-Memory
returns-in-Memory g c = rw c.in-Memory.is c.tell_text-in-Memory.ensures
