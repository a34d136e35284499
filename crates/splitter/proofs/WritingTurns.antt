-- What stands in the run's log and in the spans after each turn of refinement.
use Rattle.std.proofs.Common.{◌≡◌, ℕ, ◌+◌, List, [], ◌∷◌, ◌++◌, length, map, All, sym, refl, ap, ap₂, ◌∙◌, subst, arith, length-append}
use Rattle.std.proofs.lemmas.List.{map-append, flat_map_more}
use Rattle.std.proofs.lemmas.List.Elements.{All-nil, All-push, All-weaker}
use Rattle.std.proofs.lemmas.List.Sums.{sum_by-cons}
use Rattle.invariants.specs.declared.records.Split.{Split}
use Rattle.model_shape.specs.Numbers.{split_numbers}
use Rattle.cell_pool.specs.declared.run_log.SplitEntry.{SplitEntry}
use Rattle.cell_pool.specs.declared.run_log.BlockEntry.{BlockEntry}
use Rattle.cell_pool.specs.Numbers.{Numbers}
use Rattle.cell_pool.specs.RunLists.{RunLists}
use Rattle.run_history.specs.Records.{split_of, splits_of, IsWithin, HoldsPaths}
use Rattle.run_history.proofs.Adding.{pushes-keep, pushes-within, pushes-hold, splits-stay}
use Rattle.splitter.specs.Writing.{AreEmpty, AddsSplit, WritesSplits, paths_of}

-- the paths of splits, one behind the other, have as many numbers as the splits
pub paths-long : (ss : List Split) → length (paths_of ss) ≡ split_numbers ss
paths-long [] = refl
paths-long (s ∷ ss) =
    let c : split_numbers (s ∷ ss) ≡ length s.path + split_numbers ss = sum_by-cons (λ (x : Split). length x.path) s ss in
    omega (arith, c, length-append s.path (paths_of ss), paths-long ss)

-- before the first turn nothing is written
pub writing-start : (run_log : RunLists) (spans : Numbers) → AreEmpty run_log spans → WritesSplits run_log run_log spans spans
writing-start run_log spans e =
    let none : splits_of run_log spans ≡ [] = ap (map (split_of spans.numbers)) e.splits in
    record {
      log_is = refl;
      spans_are = ap (λ (xs : List ℕ). record spans { numbers = xs }) (e.numbers ∙ sym (ap (λ (ss : List Split). paths_of ss) none));
      paths = record {
        splits = subst (All (λ (d : SplitEntry). IsWithin spans.numbers d.path)) (sym e.splits) (All-nil (λ (d : SplitEntry). IsWithin spans.numbers d.path));
        blocks = subst (All (λ (d : BlockEntry). IsWithin spans.numbers d.path)) (sym e.blocks) (All-nil (λ (d : BlockEntry). IsWithin spans.numbers d.path));
      };
    }

-- the split that an entry says
entry-says : (numbers : List ℕ) (e : SplitEntry) (s : Split) → e.inv ≡ s.inv → e.place ≡ s.place → (split_of numbers e).path ≡ s.path → split_of numbers e ≡ s
entry-says numbers e s i q p = λ d. record { inv = i d; place = q d; path = p d }

-- a log of a run with one entry more tells one split more
pub adds-told : (run_log new : RunLists) (spans after : Numbers) (s : Split) → HoldsPaths run_log spans → AddsSplit run_log new spans after s → splits_of new after ≡ splits_of run_log spans ++ s ∷ []
adds-told run_log new spans after s h a =
    let of : SplitEntry → Split = split_of after.numbers in
    let es : new.splits ≡ run_log.splits ++ a.entry ∷ [] = ap (λ (l : RunLists). l.splits) a.log_is in
    let stay : map of run_log.splits ≡ splits_of run_log spans =
    splits-stay spans.numbers after.numbers run_log.splits (pushes-keep spans after s.path a.entry.path a.path) h.splits in
    let more : of a.entry ≡ s = entry-says after.numbers a.entry s a.inv a.place a.path.there in
    ap (map of) es ∙ map-append of run_log.splits (a.entry ∷ []) ∙ ap₂ (λ (xs : List Split) (x : Split). xs ++ x ∷ []) stay more

-- a log of a run with one entry more still has all its paths in the spans
adds-holds : (run_log new : RunLists) (spans after : Numbers) (s : Split) → HoldsPaths run_log spans → AddsSplit run_log new spans after s → HoldsPaths new after
adds-holds run_log new spans after s h a =
    let es : new.splits ≡ run_log.splits ++ a.entry ∷ [] = ap (λ (l : RunLists). l.splits) a.log_is in
    let bs : new.blocks ≡ run_log.blocks = ap (λ (l : RunLists). l.blocks) a.log_is in
    let P : SplitEntry → Type 0 = λ d. IsWithin spans.numbers d.path in
    let Q : SplitEntry → Type 0 = λ d. IsWithin after.numbers d.path in
    let B : BlockEntry → Type 0 = λ d. IsWithin spans.numbers d.path in
    let C : BlockEntry → Type 0 = λ d. IsWithin after.numbers d.path in
    record {
      splits = subst (All Q) (sym es) (All-push Q run_log.splits a.entry
          (All-weaker P Q (λ d w. pushes-hold spans after s.path a.entry.path d.path a.path w) run_log.splits h.splits)
          (pushes-within spans after s.path a.entry.path a.path));
      blocks = subst (All C) (sym bs) (All-weaker B C (λ d w. pushes-hold spans after s.path a.entry.path d.path a.path w) run_log.blocks h.blocks);
    }

-- where one split more is written, the run's log and the spans tell all splits so far
pub writing-more : (old run_log new : RunLists) (first spans after : Numbers) (s : Split) → WritesSplits old run_log first spans → AddsSplit run_log new spans after s → WritesSplits old new first after
writing-more old run_log new first spans after s w a =
    let es : new.splits ≡ run_log.splits ++ a.entry ∷ [] = ap (λ (l : RunLists). l.splits) a.log_is in
    let told : splits_of new after ≡ splits_of run_log spans ++ s ∷ [] = adds-told run_log new spans after s w.paths a in
    let joined : spans.numbers ++ s.path ≡ paths_of (splits_of new after) =
    ap (λ (n : Numbers). n.numbers ++ s.path) w.spans_are ∙ flat_map_more (λ (x : Split). x.path) [] (splits_of run_log spans) s ∙ sym (ap (λ (ss : List Split). paths_of ss) told) in
    record {
      log_is = a.log_is ∙ ap (λ (l : RunLists). record l { splits = run_log.splits ++ a.entry ∷ [] }) w.log_is ∙ ap (λ (xs : List SplitEntry). record old { splits = xs }) (sym es);
      spans_are = a.path.appends ∙ ap (λ (n : Numbers). record n { numbers = spans.numbers ++ s.path }) w.spans_are ∙ ap (λ (xs : List ℕ). record first { numbers = xs }) joined;
      paths = adds-holds run_log new spans after s w.paths a;
    }
