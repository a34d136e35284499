use Rattle.std.proofs.Common.{ℕ, List, arith, subst}
use Rattle.std.proofs.lemmas.List.Elements.{All-set}
use Rattle.trace_keys.proofs.Numbers.{AreBytes}
use Rattle.trace_builder.specs.Slots.{TellsText}
use Rattle.trace_builder.proofs.slots.note.Goals as goal

pub returns-in-Some : goal.returns-in-Some
returns-in-Some c = λ texts stands told.
    let bytes : AreBytes c.args.text.now = subst (λ (xs : List ℕ). AreBytes xs) c.as_bytes.ensures.value c.are_bytes.ensures in
    All-set (TellsText texts) c.make.new.slots.items c.in-Some.at (record { fingerprint = c.fingerprint_of_text-fingerprint.result; place = c.args.place })
    (λ short. (c.args.text.now, record { stands = stands; bytes = bytes; fingerprint = c.fingerprint_of_text-fingerprint.ensures.short (omega (arith, short, c.fingerprint_of_text-fingerprint.ensures.length)) }))
    (c.make.ensures texts told)
