use Rattle.std.proofs.Common.{◌<◌, length, ap, sym, ◌∙◌, arith}
use Rattle.trace_keys.specs.Fingerprints.{number_of}
use Rattle.trace_keys.proofs.Told.{high-few, low-few}
use Rattle.trace_keys.proofs.packed_text.PackedText.at_start.Goals as goal

pub invariant_of-result : goal.invariant_of-result
invariant_of-result c = λ _.
    let few : length c.args.text.now < 8 = omega (arith, c.if-text-ge-WORD.false) in
    (c.front_word.ensures ∙ (ap number_of c.requires.begins ∙ sym (low-few c.args.text.now few)), sym (high-few c.args.text.now few))
