use Rattle.std.proofs.Common.{◌≡◌, ◌≤◌, ◌+◌, ◌-◌, None, length, take, drop, ap, ◌∙◌, subst, arith}
use Rattle.std.proofs.lemmas.List.{with_items_is}
use Rattle.std.specs.Vec.{with_items}
use Rattle.log_reader.specs.LineReader.{SeenLines, with_more}
use Rattle.log_reader.specs.Buffers.{IsClean, line_in}
use Rattle.log_reader.proofs.Buffered.{seen, filled, reads-more, moved-clean, sound-at-front}
use Rattle.log_reader.proofs.line_reader.Lines.fill.Goals as goal

pub returns-clause-gives : goal.returns-clause-gives
returns-clause-gives g c =
    let inside = c.self.inside in
    let held = inside.to - inside.from in
    let count = c.in_ok-count.count in
    let gives = c.in_ok-count.ensures.gives in
    let front = c.to_front.new.buf in
    let at = c.deref_mut-2.result.now in
    let read = c.read_behind.new.buf in
    let front_is : at ≡ front = c.deref_mut-2.ensures.value ∙ with_items_is inside.buf front (omega (arith, c.to_front.ensures.size, c.deref_mut.ensures.len)) in
    let read_is : (with_items (with_items inside.buf front) read).items ≡ read = with_items_is (with_items inside.buf front) read (omega (arith, c.read_behind.ensures.size, c.deref_mut-2.ensures.len)) in
    let none : line_in inside.buf.items inside.line ≡ None = ap (λ (s : SeenLines). s.line) c.self.view_is ∙ ap (λ (s : SeenLines). s.line) c.requires.line in
    let is = ap (λ bs. seen bs 0 (held + count) inside.line inside.fed inside.number inside.taken inside.refused) read_is
    ∙ (filled inside.buf.items at read inside.from inside.to held count inside.line inside.fed inside.number inside.taken inside.refused (omega arith)
    (ap (take held) front_is ∙ (c.to_front.ensures.front ∙ ap (λ bs. take held (drop inside.from bs)) c.deref_mut.ensures.value)) gives.1 none
    ∙ ap (λ s. with_more s (take count (drop held read))) c.self.view_is) in
    reads-more c.args.self.now _ _ _ read held count is
    (omega (arith, gives.0, c.min-room.ensures, c.read_behind.ensures.size, c.deref_mut-2.ensures.len, c.self.invariant.0.size))
    gives.2 gives.3 gives.4

pub clean_after-self-inside-requires-clause-clean : goal.clean_after-self-inside-requires-clause-clean
clean_after-self-inside-requires-clause-clean g c =
    let inside = c.self.inside in
    let front = c.to_front.new.buf in
    let at = c.deref_mut-2.result.now in
    let read = c.read_behind.new.buf in
    let front_is : at ≡ front = c.deref_mut-2.ensures.value ∙ with_items_is inside.buf front (omega (arith, c.to_front.ensures.size, c.deref_mut.ensures.len)) in
    let read_is : (with_items (with_items inside.buf front) read).items ≡ read = with_items_is (with_items inside.buf front) read (omega (arith, c.read_behind.ensures.size, c.deref_mut-2.ensures.len)) in
    let moved = ap (take (inside.to - inside.from)) front_is ∙ (c.to_front.ensures.front ∙ ap (λ bs. take (inside.to - inside.from) (drop inside.from bs)) c.deref_mut.ensures.value) in
    moved-clean inside.buf.items at read c.deref.result.now inside.from inside.to inside.clean_from c.saturating_sub-self-inside.result c.saturating_sub-self-inside.ensures moved c.in_ok-count.ensures.gives.1
    (c.deref.ensures.value ∙ read_is) c.self.invariant.1

pub invariant_of-self : goal.invariant_of-self
invariant_of-self g c =
    let inside = c.self.inside in
    let front = c.to_front.new.buf in
    let at = c.deref_mut-2.result.now in
    let read = c.read_behind.new.buf in
    let front_is : at ≡ front = c.deref_mut-2.ensures.value ∙ with_items_is inside.buf front (omega (arith, c.to_front.ensures.size, c.deref_mut.ensures.len)) in
    let read_is : (with_items (with_items inside.buf front) read).items ≡ read = with_items_is (with_items inside.buf front) read (omega (arith, c.read_behind.ensures.size, c.deref_mut-2.ensures.len)) in
    let moved = ap (take (inside.to - inside.from)) front_is ∙ (c.to_front.ensures.front ∙ ap (λ bs. take (inside.to - inside.from) (drop inside.from bs)) c.deref_mut.ensures.value) in
    let none : line_in inside.buf.items inside.line ≡ None = ap (λ (s : SeenLines). s.line) c.self.view_is ∙ ap (λ (s : SeenLines). s.line) c.requires.line in
    let same : length (with_items (with_items inside.buf front) read).items ≡ length inside.buf.items = omega (arith, ap length read_is, c.read_behind.ensures.size, c.deref_mut-2.ensures.len, c.to_front.ensures.size, c.deref_mut.ensures.len, ap length c.deref_mut.ensures.value, ap length front_is) in (
      sound-at-front inside.buf.items _ inside.from inside.to (inside.to - inside.from) inside.line inside.number inside.taken c.self.invariant.0 same none
          (omega (arith, c.self.invariant.0.inside)) (omega (arith, c.self.invariant.0.within)),
      moved-clean inside.buf.items at read _ inside.from inside.to inside.clean_from c.saturating_sub-self-inside.result c.saturating_sub-self-inside.ensures moved c.in_err-count.ensures.gives.0
          read_is c.self.invariant.1,
    )

pub invariant_of-self-2 : goal.invariant_of-self-2
invariant_of-self-2 g c =
    let inside = c.self.inside in
    let front = c.to_front.new.buf in
    let at = c.deref_mut-2.result.now in
    let read = c.read_behind.new.buf in
    let front_is : at ≡ front = c.deref_mut-2.ensures.value ∙ with_items_is inside.buf front (omega (arith, c.to_front.ensures.size, c.deref_mut.ensures.len)) in
    let read_is : (with_items (with_items inside.buf front) read).items ≡ read = with_items_is (with_items inside.buf front) read (omega (arith, c.read_behind.ensures.size, c.deref_mut-2.ensures.len)) in
    let none : line_in inside.buf.items inside.line ≡ None = ap (λ (s : SeenLines). s.line) c.self.view_is ∙ ap (λ (s : SeenLines). s.line) c.requires.line in
    let same : length (with_items (with_items inside.buf front) read).items ≡ length inside.buf.items = omega (arith, ap length read_is, c.read_behind.ensures.size, c.deref_mut-2.ensures.len, c.to_front.ensures.size, c.deref_mut.ensures.len, ap length c.deref_mut.ensures.value, ap length front_is) in
    let count = c.in_ok-count.count in
    let few : count ≤ c.min-room.result = c.in_ok-count.ensures.gives.0 in (
      sound-at-front inside.buf.items _ inside.from inside.to (inside.to - inside.from + count) inside.line inside.number inside.taken c.self.invariant.0 same none
          (omega (arith, few, c.min-room.ensures, c.self.invariant.0.inside)) (omega (arith, few, c.min-room.ensures, c.self.invariant.0.within)),
      subst (λ bs. IsClean c.clean_after-self-inside.result (inside.to - inside.from + count) bs) c.deref.ensures.value c.clean_after-self-inside.ensures,
    )
