use Rattle.std.proofs.Common.{◌+◌, ◌-◌, take, drop, length, ap, ◌∙◌, arith, length-take}
use Rattle.lines.specs.Lines.{line_of}
use Rattle.log_reader.specs.LineReader.{SeenLines}
use Rattle.log_reader.proofs.Buffered.{took}
use Rattle.log_reader.proofs.line_reader.Lines.take.Goals as goal

pub returns : goal.returns
returns c =
    let inside = c.self.inside in
    took inside.buf.items c.without_return-line.result.now inside.from inside.to c.used-size.result inside.number inside.taken inside.line inside.fed inside.refused c.args.cut c.args.self.now
    c.self.view_is c.used-size.ensures
    (omega (arith, c.used-size.ensures, c.requires.inside, ap (λ (s : SeenLines). length s.buffered) c.self.view_is, length-take (inside.to - inside.from) (drop inside.from inside.buf.items)))
    (c.without_return-line.ensures ∙ ap (λ bs. line_of (take (inside.from + c.args.cut.length - inside.from) (drop inside.from bs))) c.deref.ensures.value)
