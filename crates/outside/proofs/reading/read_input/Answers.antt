use Rattle.std.proofs.Common.{rules, ◌∙◌}
use Rattle.outside.proofs.Fronts.{told-read}
use Rattle.outside.proofs.reading.read_input.Goals as goal

pub returns-in_ok-read_rest-in-Ok-clause-gives : goal.returns-in_ok-read_rest-in-Ok-clause-gives
returns-in_ok-read_rest-in-Ok-clause-gives g c =
    let opened = c.in-Ok.ensures.gives in
    let read = c.in_ok-read_rest-in-Ok.ensures in
    record {
      opens = read.opens ∙ opened.2;
      mark = read.mark ∙ opened.1;
      faults = read.no_fault ∙ opened.3;
      short = read.short;
      told = told-read _ _ _ _ c.in_ok-read_rest-in-Ok.field-0.items _ opened.0 read.read read.short read.at_end;
      at_end = read.at_end;
      turn = read.turn ∙ c.in-Ok.ensures.turn;
    }

pub returns-in-Err-Missing-clause-gives : goal.returns-in-Err-Missing-clause-gives
returns-in-Err-Missing-clause-gives g c = search rules

pub returns-in-Err-Failed-clause-gives : goal.returns-in-Err-Failed-clause-gives
returns-in-Err-Failed-clause-gives g c = search rules

pub returns-in_err-read_rest-in-Ok-clause-gives : goal.returns-in_err-read_rest-in-Ok-clause-gives
returns-in_err-read_rest-in-Ok-clause-gives g c = search rules

pub returns-in_ok-read_rest-in-Ok-clause-turn : goal.returns-in_ok-read_rest-in-Ok-clause-turn
returns-in_ok-read_rest-in-Ok-clause-turn g c = search rules

pub returns-in_err-read_rest-in-Ok-clause-turn : goal.returns-in_err-read_rest-in-Ok-clause-turn
returns-in_err-read_rest-in-Ok-clause-turn g c = search rules

pub returns-in-Err-Missing-clause-turn : goal.returns-in-Err-Missing-clause-turn
returns-in-Err-Missing-clause-turn g c = search rules

pub returns-in-Err-Failed-clause-turn : goal.returns-in-Err-Failed-clause-turn
returns-in-Err-Failed-clause-turn g c = search rules
