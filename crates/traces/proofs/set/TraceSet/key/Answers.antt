use Rattle.std.proofs.Common.{◌≡◌, arith, sym}
use Rattle.std.proofs.lemmas.Option.{get_or_from_slice_get}
use Rattle.trace_keys.specs.Keys.{Key, key_shown}
use Rattle.traces.specs.Words.{Trace}
use Rattle.traces.proofs.ShownTraces.{count-shown, shown}
use Rattle.traces.proofs.set.TraceSet.key.Goals as goal

pub key-requires : goal.key-requires
key-requires c =
    let s = c.self.inside in
    omega (arith, c.requires, count-shown c.args.self.now s.types s.keys s.events.starts.items s.events.numbers.items s.events.times.items c.self.view_is)

pub returns-clause-value : goal.returns-clause-value
returns-clause-value c =
    let s = c.self.inside in
    let key : Key = key_shown c.key.result in
    shown (λ (trace : Trace). key ≡ trace.key) c.args.self.now s.types s.keys s.events.starts.items s.events.numbers.items s.events.times.items c.args.t key c.self.view_is
    c.requires (sym (get_or_from_slice_get s.keys c.args.t key key c.key.ensures.value))
