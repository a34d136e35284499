use Rattle.std.proofs.Common.{◌≡◌, subst, None, OnOk, IfOk, IfErr}
use Rattle.log_reader.specs.Reading.{decided}
use Rattle.log_reader.specs.SoFar.{setting_of, decided_line, refusal_in, taken_for, IsRefusal, ReadsText}
use Rattle.log_reader.proofs.PieceByPiece.{not-none, read-as_it_stands, line-decided}
use Rattle.log_reader.proofs.reader.LogReader.read_unknown.Goals as goal

pub returns-in-Ok-clause-ok : goal.returns-in-Ok-clause-ok
returns-in-Ok-clause-ok c =
    let old = c.args.self.now in
    let form = (setting_of old).form in
    let line = c.args.line.now in
    let text = c.in-Ok.text.now in
    let is : decided form text ≡ decided_line form line = line-decided form line text (not-none _ c.requires.some) (read-as_it_stands line text c.in-Ok.ensures.cases.0 c.in-Ok.ensures.cases.1) in
    subst (λ d. OnOk c.read_text.result (ReadsText c.args.at d old c.read_text.new.self)) is c.read_text.ensures.ok

pub returns-in-Ok-clause-err : goal.returns-in-Ok-clause-err
returns-in-Ok-clause-err c =
    let old = c.args.self.now in
    let s = setting_of old in
    let line = c.args.line.now in
    let text = c.in-Ok.text.now in
    let is : decided s.form text ≡ decided_line s.form line = line-decided s.form line text (not-none _ c.requires.some) (read-as_it_stands line text c.in-Ok.ensures.cases.0 c.in-Ok.ensures.cases.1) in
    subst (λ d. IfErr c.read_text.result (IsRefusal (refusal_in s.ignore c.args.at old.log.builder d))) is c.read_text.ensures.err

pub returns-in-Ok-clause-memory : goal.returns-in-Ok-clause-memory
returns-in-Ok-clause-memory c =
    let old = c.args.self.now in
    let s = setting_of old in
    let line = c.args.line.now in
    let text = c.in-Ok.text.now in
    let is : decided s.form text ≡ decided_line s.form line = line-decided s.form line text (not-none _ c.requires.some) (read-as_it_stands line text c.in-Ok.ensures.cases.0 c.in-Ok.ensures.cases.1) in
    λ wanted utf8. subst (λ d. refusal_in s.ignore c.args.at old.log.builder d ≡ None) is (c.read_text.ensures.memory wanted)

pub returns-in-Ok-clause-taken : goal.returns-in-Ok-clause-taken
returns-in-Ok-clause-taken c =
    let old = c.args.self.now in
    let form = (setting_of old).form in
    let line = c.args.line.now in
    let text = c.in-Ok.text.now in
    let is : decided form text ≡ decided_line form line = line-decided form line text (not-none _ c.requires.some) (read-as_it_stands line text c.in-Ok.ensures.cases.0 c.in-Ok.ensures.cases.1) in
    subst (λ d. IfOk c.read_text.result (λ taken. taken ≡ taken_for c.args.at d old.log)) is c.read_text.ensures.taken
