use Rattle.std.proofs.Common.{◌≡◌, sym, ◌∙◌, subst, None, OnOk, IfOk, IfErr}
use Rattle.std.proofs.lemmas.Str.{IsUtf8-from_ascii}
use Rattle.log_reader.specs.Reading.{decided}
use Rattle.log_reader.specs.SoFar.{setting_of, decided_line, refusal_in, taken_for, IsRefusal, ReadsText}
use Rattle.log_reader.proofs.PieceByPiece.{read-as_it_stands, line-decided}
use Rattle.log_reader.proofs.reader.LogReader.read_line.Goals as goal

pub from_utf8_unchecked-text-requires : goal.from_utf8_unchecked-text-requires
from_utf8_unchecked-text-requires c = IsUtf8-from_ascii c.args.line.now (c.requires.ascii c.if-ascii.true)

pub returns-then-ascii-clause-ok : goal.returns-then-ascii-clause-ok
returns-then-ascii-clause-ok c =
    let old = c.args.self.now in
    let form = (setting_of old).form in
    let line = c.args.line.now in
    let text = c.from_utf8_unchecked-text.result.now in
    let is : decided form text ≡ decided_line form line = line-decided form line text (sym c.is_empty.ensures ∙ c.if-is_empty.false)
    (read-as_it_stands line text c.from_utf8_unchecked-text.ensures (IsUtf8-from_ascii line (c.requires.ascii c.if-ascii.true))) in
    subst (λ d. OnOk c.read_text.result (ReadsText c.args.at d old c.read_text.new.self)) is c.read_text.ensures.ok

pub returns-then-ascii-clause-err : goal.returns-then-ascii-clause-err
returns-then-ascii-clause-err c =
    let old = c.args.self.now in
    let s = setting_of old in
    let line = c.args.line.now in
    let text = c.from_utf8_unchecked-text.result.now in
    let is : decided s.form text ≡ decided_line s.form line = line-decided s.form line text (sym c.is_empty.ensures ∙ c.if-is_empty.false)
    (read-as_it_stands line text c.from_utf8_unchecked-text.ensures (IsUtf8-from_ascii line (c.requires.ascii c.if-ascii.true))) in
    subst (λ d. IfErr c.read_text.result (IsRefusal (refusal_in s.ignore c.args.at old.log.builder d))) is c.read_text.ensures.err

pub returns-then-ascii-clause-memory : goal.returns-then-ascii-clause-memory
returns-then-ascii-clause-memory c =
    let old = c.args.self.now in
    let s = setting_of old in
    let line = c.args.line.now in
    let text = c.from_utf8_unchecked-text.result.now in
    let is : decided s.form text ≡ decided_line s.form line = line-decided s.form line text (sym c.is_empty.ensures ∙ c.if-is_empty.false)
    (read-as_it_stands line text c.from_utf8_unchecked-text.ensures (IsUtf8-from_ascii line (c.requires.ascii c.if-ascii.true))) in
    λ wanted utf8. subst (λ d. refusal_in s.ignore c.args.at old.log.builder d ≡ None) is (c.read_text.ensures.memory wanted)

pub returns-then-ascii-clause-taken : goal.returns-then-ascii-clause-taken
returns-then-ascii-clause-taken c =
    let old = c.args.self.now in
    let form = (setting_of old).form in
    let line = c.args.line.now in
    let text = c.from_utf8_unchecked-text.result.now in
    let is : decided form text ≡ decided_line form line = line-decided form line text (sym c.is_empty.ensures ∙ c.if-is_empty.false)
    (read-as_it_stands line text c.from_utf8_unchecked-text.ensures (IsUtf8-from_ascii line (c.requires.ascii c.if-ascii.true))) in
    subst (λ d. IfOk c.read_text.result (λ taken. taken ≡ taken_for c.args.at d old.log)) is c.read_text.ensures.taken
