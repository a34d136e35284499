use Rattle.std.proofs.Common.{◌≡◌, ◌∙◌, subst, OnOk, IfOk, IfErr}
use Rattle.std.specs.Str.Lossy.{utf8_lossy}
use Rattle.log_reader.specs.Reading.{decided}
use Rattle.log_reader.specs.SoFar.{setting_of, decided_line, refusal_in, taken_for, IsRefusal, ReadsText}
use Rattle.log_reader.proofs.PieceByPiece.{not-none, read-as_decoded, line-decided}
use Rattle.log_reader.proofs.reader.LogReader.read_lossy.Goals as goal

pub returns-in-Ok-clause-ok : goal.returns-in-Ok-clause-ok
returns-in-Ok-clause-ok c =
    let old = c.args.self.now in
    let form = (setting_of old).form in
    let line = c.args.line.now in
    let text : c.deref.result.now ≡ utf8_lossy line = read-as_decoded line c.deref.result.now (c.deref.ensures.value ∙ c.in-Ok.ensures.text) in
    let is : decided form c.deref.result.now ≡ decided_line form line = line-decided form line c.deref.result.now (not-none _ c.requires.some) text in
    subst (λ d. OnOk c.read_text.result (ReadsText c.args.at d old c.read_text.new.self)) is c.read_text.ensures.ok

pub returns-in-Ok-clause-err : goal.returns-in-Ok-clause-err
returns-in-Ok-clause-err c =
    let old = c.args.self.now in
    let s = setting_of old in
    let line = c.args.line.now in
    let text : c.deref.result.now ≡ utf8_lossy line = read-as_decoded line c.deref.result.now (c.deref.ensures.value ∙ c.in-Ok.ensures.text) in
    let is : decided s.form c.deref.result.now ≡ decided_line s.form line = line-decided s.form line c.deref.result.now (not-none _ c.requires.some) text in
    subst (λ d. IfErr c.read_text.result (IsRefusal (refusal_in s.ignore c.args.at old.log.builder d))) is c.read_text.ensures.err

pub returns-in-Ok-clause-taken : goal.returns-in-Ok-clause-taken
returns-in-Ok-clause-taken c =
    let old = c.args.self.now in
    let form = (setting_of old).form in
    let line = c.args.line.now in
    let text : c.deref.result.now ≡ utf8_lossy line = read-as_decoded line c.deref.result.now (c.deref.ensures.value ∙ c.in-Ok.ensures.text) in
    let is : decided form c.deref.result.now ≡ decided_line form line = line-decided form line c.deref.result.now (not-none _ c.requires.some) text in
    subst (λ d. IfOk c.read_text.result (λ taken. taken ≡ taken_for c.args.at d old.log)) is c.read_text.ensures.taken
