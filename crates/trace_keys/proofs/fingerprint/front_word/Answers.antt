use Rattle.std.proofs.Common.{◌%◌, ◌*◌, ◌^◌, ◌∙◌, ap}
use Rattle.trace_keys.proofs.Numbers.{front}
use Rattle.trace_keys.proofs.fingerprint.front_word.Goals as goal

pub returns : goal.returns
returns c =
    ap (λ n. n % (1 * 2 ^ (8 * c.args.count) % 18446744073709551616)) c.word_at.ensures
    ∙ front c.args.bytes.now c.args.count c.requires.eight c.requires.fewer c.are_bytes.ensures
