use Rattle.std.proofs.Common.{◌≡◌, ◌<◌, ◌-◌, length, map, arith, ap, refl, subst}
use Rattle.std.specs.String.{string_bytes}
use Rattle.log_reader.specs.Views.{names_in}
use Rattle.limits.specs.declared.TheConstants.{MAX_INPUT_BYTES}
use Rattle.log_reader.specs.LineReader.{SeenLines}
use Rattle.log_reader.proofs.InputByInput.{IsUpTo, count-inputs, up-to-none, up-to-more, up-to-end, up-to-all, up-to-opens, opened-few, stays-on}
use Rattle.log_reader.proofs.WhyRefused.{up-to-cause}
use Rattle.log_reader.proofs.reading.read_inputs.Goals as goal

pub loop-number-init : goal.loop-number-init
loop-number-init g c =
    let lines = c.args.lines.now in
    let unused = c.requires.unused in
    let none : lines.taken ≡ 0 = ap (λ (s : SeenLines). s.taken) unused in
    let room : MAX_INPUT_BYTES ≡ MAX_INPUT_BYTES - lines.taken = omega (arith, none) in
    record {
      inputs = subst (IsUpTo _ _ 0 _ _ (g.T.TakeLines.seen c.args.reader.now)) room (up-to-none _ _ _ (g.T.TakeLines.seen c.args.reader.now) c.requires.ready refl c.requires.section c.requires.nothing);
      lines = record { nothing = ap (λ (s : SeenLines). s.buffered) unused; refused = ap (λ (s : SeenLines). s.refused) unused; taken = omega (arith, none) };
    }

pub returns-in-Err-clause-stays : goal.returns-in-Err-clause-stays
returns-in-Err-clause-stays g c = stays-on _ _ _ c.loop-number.invariant.inputs.stays c.in-Err.ensures.stays

pub returns-in-Err-clause-err : goal.returns-in-Err-clause-err
returns-in-Err-clause-err g c =
    up-to-cause _ _ c.loop-number.number _ (g.I.Inputs.state c.loop-number.inputs) (g.I.Inputs.state c.read_file.new.inputs) (g.T.TakeLines.seen c.loop-number.reader) (MAX_INPUT_BYTES - c.loop-number.lines.taken) c.name_at-name.result.now _
    c.loop-number.invariant.inputs c.name_at-name.ensures c.in-Err.ensures.err

pub loop-number-preserved : goal.loop-number-preserved
loop-number-preserved g c = record {
  inputs = up-to-more _ _ c.loop-number.number _ (g.I.Inputs.state c.loop-number.inputs) (g.I.Inputs.state c.read_file.new.inputs) (g.T.TakeLines.seen c.loop-number.reader) (g.T.TakeLines.seen c.read_file.new.reader)
      (MAX_INPUT_BYTES - c.loop-number.lines.taken) (MAX_INPUT_BYTES - c.read_file.new.lines.taken) c.name_at-name.result.now
      c.loop-number.invariant.inputs c.name_at-name.ensures c.in-Ok.ensures.stays c.in-Ok.ensures.ok c.in-Ok.ensures.one;
  lines = c.in-Ok.ensures.between;
}

pub returns-clause-ok : goal.returns-clause-ok
returns-clause-ok g c =
    let k = c.loop-number.number in
    let all : k ≡ length (names_in c.args.names.now) = omega (arith, c.count_of-count.ensures.value, c.loop-number.auto.number-end, c.loop-number-test.false) in
    let some : 0 < length (names_in c.args.names.now) = omega (arith, count-inputs (map string_bytes c.args.names.now)) in
    up-to-end _ _ k _ (g.I.Inputs.state c.loop-number.inputs) (g.T.TakeLines.seen c.loop-number.reader) (MAX_INPUT_BYTES - c.loop-number.lines.taken) c.loop-number.invariant.inputs all (omega (arith, all, some))

pub returns-clause-setting : goal.returns-clause-setting
returns-clause-setting g c = c.loop-number.invariant.inputs.setting

pub returns-clause-opens : goal.returns-clause-opens
returns-clause-opens g c =
    let k = c.loop-number.number in
    let all : k ≡ length (names_in c.args.names.now) = omega (arith, c.count_of-count.ensures.value, c.loop-number.auto.number-end, c.loop-number-test.false) in
    omega (arith, all, opened-few (g.I.Inputs.state c.args.inputs.now).opens (g.I.Inputs.state c.loop-number.inputs).opens k c.loop-number.invariant.inputs.none c.loop-number.invariant.inputs.some)

pub returns-clause-turn : goal.returns-clause-turn
returns-clause-turn g c =
    let k = c.loop-number.number in
    let all : k ≡ length (names_in c.args.names.now) = omega (arith, c.count_of-count.ensures.value, c.loop-number.auto.number-end, c.loop-number-test.false) in
    let some : 0 < length (names_in c.args.names.now) = omega (arith, count-inputs (map string_bytes c.args.names.now)) in
    up-to-all _ _ k _ (g.I.Inputs.state c.loop-number.inputs) (g.T.TakeLines.seen c.loop-number.reader) (MAX_INPUT_BYTES - c.loop-number.lines.taken) c.loop-number.invariant.inputs all (omega (arith, all, some))

pub returns-in-Err-clause-turn : goal.returns-in-Err-clause-turn
returns-in-Err-clause-turn g c =
    up-to-opens _ _ c.loop-number.number _ (g.I.Inputs.state c.loop-number.inputs) (g.I.Inputs.state c.read_file.new.inputs) (g.T.TakeLines.seen c.loop-number.reader) (MAX_INPUT_BYTES - c.loop-number.lines.taken) c.name_at-name.result.now
    c.loop-number.invariant.inputs c.name_at-name.ensures c.read_file.ensures.turn
