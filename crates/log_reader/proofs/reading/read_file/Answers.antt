use Rattle.std.proofs.Common.{rules, ◌≡◌, ◌-◌, arith, ap, inl, subst}
use Rattle.limits.specs.declared.TheConstants.{MAX_INPUT_BYTES}
use Rattle.log_reader.specs.Files.{HasFileCause, OpensFile, OpensOne, ReadsFile}
use Rattle.log_reader.specs.LineReader.{SeenLines}
use Rattle.log_reader.proofs.OneInput.{file-read, file-refused, not-opened, opened-none, still-named, still-one}
use Rattle.log_reader.proofs.reading.read_file.Goals as goal

pub returns-in-Err-clause-err : goal.returns-in-Err-clause-err
returns-in-Err-clause-err g c = not-opened _ _ c.args.name.now c.args.number _ (g.T.TakeLines.seen c.args.reader.now) c.in-Err.error c.in-Err.ensures.err

pub returns-in-Err-clause-memory : goal.returns-in-Err-clause-memory
returns-in-Err-clause-memory g c = search rules

pub returns-in-Err-clause-opens : goal.returns-in-Err-clause-opens
returns-in-Err-clause-opens g c = omega (arith, c.in-Err.ensures.err.none.opens)

pub returns-in-Err-clause-turn : goal.returns-in-Err-clause-turn
returns-in-Err-clause-turn g c = opened-none _ _ c.args.name.now c.args.number _ c.in-Err.error c.in-Err.ensures.err

pub returns-in-Err-read_lines-clause-err : goal.returns-in-Err-read_lines-clause-err
returns-in-Err-read_lines-clause-err g c =
    let before = g.I.Inputs.state c.args.inputs.now in
    let opened = g.I.Inputs.state c.open_input.new.inputs in
    let after = g.I.Inputs.state c.read_lines.new.inputs in
    let name = c.args.name.now in
    let old = (g.T.TakeLines.seen c.args.reader.now) in
    let first = c.start.new.self in
    let taken : first.taken ≡ c.args.lines.now.taken = ap (λ (s : SeenLines). s.taken) c.start.ensures in
    subst (λ n. HasFileCause before after name c.args.number (MAX_INPUT_BYTES - n) old c.in-Err-read_lines.error) taken
    (file-refused before opened after name c.args.number first old c.in-Err-read_lines.error c.in-Ok.ensures.ok
    (still-named before opened after name (MAX_INPUT_BYTES - first.taken) c.in-Ok.ensures.ok c.read_lines.ensures.opens c.read_lines.ensures.mark c.read_lines.ensures.left)
    c.read_lines.ensures.opens c.in-Err-read_lines.ensures.err)

pub returns-in-Err-read_lines-clause-turn : goal.returns-in-Err-read_lines-clause-turn
returns-in-Err-read_lines-clause-turn g c =
    let taken : c.start.new.self.taken ≡ c.args.lines.now.taken = ap (λ (s : SeenLines). s.taken) c.start.ensures in
    subst (λ n. OpensFile c.args.name.now (MAX_INPUT_BYTES - n) (g.I.Inputs.state c.args.inputs.now) (g.I.Inputs.state c.read_lines.new.inputs)) taken
    (inl (still-one _ (g.I.Inputs.state c.open_input.new.inputs) _ c.args.name.now (MAX_INPUT_BYTES - c.start.new.self.taken) c.in-Ok.ensures.ok c.read_lines.ensures.opens c.read_lines.ensures.mark c.read_lines.ensures.left c.read_lines.ensures.turn))

pub returns-in-Err-read_lines-clause-opens : goal.returns-in-Err-read_lines-clause-opens
returns-in-Err-read_lines-clause-opens g c = omega (arith, c.read_lines.ensures.opens, c.in-Ok.ensures.ok.opens)

pub returns-clause-opens : goal.returns-clause-opens
returns-clause-opens g c = omega (arith, c.read_lines.ensures.opens, c.in-Ok.ensures.ok.opens)

pub returns-clause-ok : goal.returns-clause-ok
returns-clause-ok g c =
    let before = g.I.Inputs.state c.args.inputs.now in
    let after = g.I.Inputs.state c.read_lines.new.inputs in
    let taken : c.start.new.self.taken ≡ c.args.lines.now.taken = ap (λ (s : SeenLines). s.taken) c.start.ensures in
    subst (λ n. ReadsFile before after c.args.name.now c.args.number (MAX_INPUT_BYTES - n) (MAX_INPUT_BYTES - c.read_lines.new.lines.taken) (g.T.TakeLines.seen c.args.reader.now) (g.T.TakeLines.seen c.end_file.new.self)) taken
    (file-read before (g.I.Inputs.state c.open_input.new.inputs) after c.args.name.now c.args.number c.start.new.self c.read_lines.new.lines (g.T.TakeLines.seen c.args.reader.now) (g.T.TakeLines.seen c.read_lines.new.reader) (g.T.TakeLines.seen c.end_file.new.self)
    c.in-Ok.ensures.ok c.read_lines.ensures.opens c.in-Ok-read_lines.ensures.ok c.end_file.ensures)

pub returns-clause-one : goal.returns-clause-one
returns-clause-one g c =
    let taken : c.start.new.self.taken ≡ c.args.lines.now.taken = ap (λ (s : SeenLines). s.taken) c.start.ensures in
    subst (λ n. OpensOne c.args.name.now (MAX_INPUT_BYTES - n) (g.I.Inputs.state c.args.inputs.now) (g.I.Inputs.state c.read_lines.new.inputs)) taken
    (still-one _ (g.I.Inputs.state c.open_input.new.inputs) _ c.args.name.now (MAX_INPUT_BYTES - c.start.new.self.taken) c.in-Ok.ensures.ok c.read_lines.ensures.opens c.read_lines.ensures.mark c.read_lines.ensures.left c.read_lines.ensures.turn)

pub returns-clause-turn : goal.returns-clause-turn
returns-clause-turn g c =
    let taken : c.start.new.self.taken ≡ c.args.lines.now.taken = ap (λ (s : SeenLines). s.taken) c.start.ensures in
    subst (λ n. OpensFile c.args.name.now (MAX_INPUT_BYTES - n) (g.I.Inputs.state c.args.inputs.now) (g.I.Inputs.state c.read_lines.new.inputs)) taken
    (inl (still-one _ (g.I.Inputs.state c.open_input.new.inputs) _ c.args.name.now (MAX_INPUT_BYTES - c.start.new.self.taken) c.in-Ok.ensures.ok c.read_lines.ensures.opens c.read_lines.ensures.mark c.read_lines.ensures.left c.read_lines.ensures.turn))
