-- What the pass over the blocks keeps.
use Rattle.std.proofs.Common.{◌≡◌, ℕ, ◌+◌, ◌<◌, ◌≤◌, List, [], ◌∷◌, ◌++◌, length, map, get_or, slice_get, Option, None, Some, is_some, MatchOption, true, false, All, sym, ◌∙◌, refl, ap, ap₂, subst, subst₂, arith, length-append, append_assoc}
use Rattle.std.proofs.lemmas.Bool.{true≢false}
use Rattle.std.proofs.lemmas.List.{map-append, length-map}
use Rattle.std.proofs.lemmas.List.Sums.{sum_by-cons}
use Rattle.std.proofs.lemmas.List.Elements.{All-push, All-weaker, All-nil, All-head, All-tail}
use Rattle.std.proofs.lemmas.List.Concat.{flat_map-append, length-flat_map}
use Rattle.std.proofs.lemmas.Option.{slice_get_within, get_or_from_slice_get}
use Rattle.std.specs.List.{AllByRecursion}
use Rattle.invariants.specs.declared.Invariant.{Invariant}
use Rattle.invariants.specs.declared.records.Merge.{Merge}
use Rattle.invariants.specs.declared.records.Block.{Block}
use Rattle.partition_model.specs.Graphs.{Graph, Satisfies, IsLeastViolation, Merged}
use Rattle.partition_model.specs.Assignments.{Assignment, G, IsTyped}
use Rattle.partition_model.specs.Refinement.{SatisfiesAll, IsFirstBroken}
use Rattle.partition_model.specs.Coarsening.{IsPair, IsBlock, AreBlocks, NoMerge}
use Rattle.partition_model.proofs.Lists.{all_from}
use Rattle.partition_model.proofs.Least.{one_least}
use Rattle.partition_model.proofs.Runs.{broken}
use Rattle.partition_model.proofs.Unique.{one-broken}
use Rattle.partition_bounds.specs.Laws.{IsBelow}
use Rattle.partition_bounds.specs.Pairs.{pair_of, pairs_of, pairs_below}
use Rattle.partition_bounds.proofs.Ordered.{In-get}
use Rattle.partition_bounds.proofs.BlockPairs.{blocks_follow_pairs, pairs_give_blocks}
use Rattle.partition_bounds.proofs.Blocks.{merge_satisfies}
use Rattle.partition_bounds.proofs.Merges.{graphs_are_below}
use Rattle.model_shape.specs.Numbers.{block_numbers}
use Rattle.partition_graph.specs.Parts.{Parts}
use Rattle.cell_pool.specs.Numbers.{Numbers, KeepsLists, Pushes}
use Rattle.cell_pool.specs.RunLists.{RunLists}
use Rattle.cell_pool.specs.declared.spans.Span.{Span}
use Rattle.cell_pool.specs.declared.run_log.BlockEntry.{BlockEntry}
use Rattle.cell_pool.specs.declared.run_log.SplitEntry.{SplitEntry}
use Rattle.run_history.specs.Records.{block_of, blocks_of, HoldsPaths, IsWithin}
use Rattle.coarsener.specs.declared.pairs.Pair.{Pair}
use Rattle.coarsener.specs.Pairs.{HasIds, HasNoPairBehind, IsNextPair}
use Rattle.coarsener.specs.Blocking.{pair_count, paths_of, EndsWithoutRoom}
use Rattle.coarsener.proofs.Deciding.{none}
use Rattle.coarsener.specs.Telling.{TellByLabels}
use Rattle.labelling.specs.Labelled.{Labelling, AreLabelsOf}
use Rattle.coarsener.proofs.Remaining.{Remain, remain-start, remain-next, remain-none, remain-some, remain-two, one-pair}

-- one more at the end
pub all-push : {X : Type 0} (P : X → Type 0) (xs : List X) (x : X) → AllByRecursion P xs → P x → AllByRecursion P (xs ++ x ∷ [])
all-push P [] x a p = (p, tt)
all-push P (y ∷ xs) x a p = (a.0, all-push P xs x a.1 p)

-- the run's log with one more block
abbrev pub with_block : ℕ → ℕ → ℕ → Span → RunLists → RunLists
with_block p q k span run_log = record run_log { blocks = run_log.blocks ++ record { p = p; q = q; inv = k; path = span } ∷ [] }

abbrev Held : List ℕ → List BlockEntry → Type 0
Held numbers entries = All (λ (e : BlockEntry). IsWithin numbers e.path) entries

-- what the pass keeps: the pairs up to (p, q) have their blocks
pub record IsBlocking (invs : List Invariant) (parts : Parts) (log0 run_log : RunLists) (spans0 spans : Numbers) (p q : ℕ) : Type 0 where
  pub rest : List Merge
  pub remain : Remain (G parts.traces) p q rest
  pub pairs : pairs_of (blocks_of run_log spans) ++ rest ≡ pairs_below parts.used (G parts.traces)
  pub each : AllByRecursion (IsBlock invs (G parts.traces)) (blocks_of run_log spans)
  pub held : All (λ (e : BlockEntry). IsWithin spans.numbers e.path) run_log.blocks
  pub paths : spans ≡ record spans0 { numbers = spans0.numbers ++ paths_of (blocks_of run_log spans) }
  pub stays : KeepsLists spans0.numbers spans.numbers
  pub others : run_log ≡ record log0 { blocks = run_log.blocks }

parts-below : (parts : Parts) → HasIds parts → IsBelow parts.used (G parts.traces)
parts-below parts ids = graphs_are_below parts.traces parts.used ids.two ids.below

append-none : {X : Type 0} (xs : List X) → xs ++ [] ≡ xs
append-none [] = refl
append-none (x ∷ xs) = ap (λ ys. x ∷ ys) (append-none xs)

-- before the first pair there are no blocks
pub blocking-start : (invs : List Invariant) (parts : Parts) (run_log : RunLists) (spans : Numbers) → HasIds parts → run_log.blocks ≡ [] → IsBlocking invs parts run_log run_log spans spans 2 2
blocking-start invs parts run_log spans ids e =
    let g : Graph = G parts.traces in
    let b : blocks_of run_log spans ≡ [] = ap (map (block_of spans.numbers)) e in
    record {
      rest = pairs_below parts.used g;
      remain = remain-start g parts.used (parts-below parts ids);
      pairs = ap (λ (bs : List Block). pairs_of bs ++ pairs_below parts.used g) b;
      each = subst (λ (bs : List Block). AllByRecursion (IsBlock invs g) bs) (sym b) tt;
      held = subst (λ (es : List BlockEntry). Held spans.numbers es) (sym e) (All-nil (λ (x : BlockEntry). IsWithin spans.numbers x.path));
      paths = ap (λ (ns : List ℕ). record spans { numbers = ns }) (sym (ap (λ (bs : List Block). spans.numbers ++ paths_of bs) b ∙ append-none spans.numbers));
      stays = λ from len l. refl;
      others = refl;
    }

-- a block stays where its path does
block-kept : (numbers numbers' : List ℕ) (e : BlockEntry) → KeepsLists numbers numbers' → IsWithin numbers e.path → block_of numbers' e ≡ block_of numbers e
block-kept numbers numbers' e k w = ap (λ (path : List ℕ). record { p = e.p; q = e.q; inv = e.inv; path = path }) (k e.path.from e.path.len w)

blocks-kept : (numbers numbers' : List ℕ) (es : List BlockEntry) → KeepsLists numbers numbers' → Held numbers es → map (block_of numbers') es ≡ map (block_of numbers) es
blocks-kept numbers numbers' [] k w = refl
blocks-kept numbers numbers' (e ∷ es) k w =
    ap₂ (λ (b : Block) (bs : List Block). b ∷ bs)
    (block-kept numbers numbers' e k (All-head (λ (x : BlockEntry). IsWithin numbers x.path) e es w))
    (blocks-kept numbers numbers' es k (All-tail (λ (x : BlockEntry). IsWithin numbers x.path) e es w))

blocks-more : (p q k : ℕ) (path : List ℕ) (span : Span) (run_log : RunLists) (spans spans' : Numbers) → Held spans.numbers run_log.blocks → KeepsLists spans.numbers spans'.numbers → Pushes spans spans' path span
    → blocks_of (with_block p q k span run_log) spans' ≡ blocks_of run_log spans ++ record { p = p; q = q; inv = k; path = path } ∷ []
blocks-more p q k path span run_log spans spans' held keeps push =
    let e : BlockEntry = record { p = p; q = q; inv = k; path = span } in
    map-append (block_of spans'.numbers) run_log.blocks (e ∷ [])
    ∙ ap₂ (λ (bs cs : List Block). bs ++ cs) (blocks-kept spans.numbers spans'.numbers run_log.blocks keeps held)
    (ap (λ (ns : List ℕ). record { p = p; q = q; inv = k; path = ns } ∷ []) push.there)

held-more : (p q k : ℕ) (path : List ℕ) (span : Span) (run_log : RunLists) (spans spans' : Numbers) → Held spans.numbers run_log.blocks → Pushes spans spans' path span
    → Held spans'.numbers (with_block p q k span run_log).blocks
held-more p q k path span run_log spans spans' held push =
    let n : length spans'.numbers ≡ length spans.numbers + length path = ap (λ (x : Numbers). length x.numbers) push.appends ∙ length-append spans.numbers path in
    let from : span.from ≡ length spans.numbers = push.from in
    let long : span.len ≡ length path = push.long in
    All-push (λ (x : BlockEntry). IsWithin spans'.numbers x.path) run_log.blocks (record { p = p; q = q; inv = k; path = span })
    (All-weaker (λ (x : BlockEntry). IsWithin spans.numbers x.path) (λ (x : BlockEntry). IsWithin spans'.numbers x.path)
    (λ x w. omega (arith, w)) run_log.blocks held)
    (omega arith)

paths-more : (bs : List Block) (b : Block) → paths_of (bs ++ b ∷ []) ≡ paths_of bs ++ b.path
paths-more bs b = flat_map-append (λ (x : Block). x.path) bs (b ∷ []) ∙ ap (λ (ns : List ℕ). paths_of bs ++ ns) (append-none b.path)

-- the pairs of blocks with one more
pub pairs-more : (bs : List Block) (b : Block) (more : List Merge) → pairs_of (bs ++ b ∷ []) ++ more ≡ pairs_of bs ++ pair_of b.p b.q ∷ more
pairs-more [] b more = refl
pairs-more (x ∷ bs) b more = ap (λ (ms : List Merge). pair_of x.p x.q ∷ ms) (pairs-more bs b more)

keeps-more : (a b c : List ℕ) → KeepsLists a b → KeepsLists b c → length a ≤ length b → KeepsLists a c
keeps-more a b c k l n from len w = l from len (omega (arith, w)) ∙ k from len w

-- the first invariant that the merge of a pair loses makes its block, with the least violation of it
pub block-is : (invs : List Invariant) (g : Graph) (p q k : ℕ) (path : List ℕ) → IsPair g p q → IsFirstBroken (Merged g p q) invs k → IsLeastViolation (Merged g p q) (get_or invs k none) path
    → IsBlock invs g (record { p = p; q = q; inv = k; path = path })
block-is invs g p q k path i f v =
    record {
      pair = i;
      first = f;
      least = λ inv e. subst (λ (x : Invariant). IsLeastViolation (Merged g p q) x path) (get_or_from_slice_get invs k inv none e) v;
    }

-- a turn adds the block of the next pair
pub blocking-turn : (invs : List Invariant) (parts : Parts) (log0 run_log : RunLists) (spans0 spans spans' : Numbers) (p q r s k : ℕ) (path : List ℕ) (span : Span)
    → IsBlocking invs parts log0 run_log spans0 spans p q → IsNextPair (G parts.traces) p q r s → IsFirstBroken (Merged (G parts.traces) r s) invs k
    → IsLeastViolation (Merged (G parts.traces) r s) (get_or invs k none) path → Pushes spans spans' path span → KeepsLists spans.numbers spans'.numbers
    → IsBlocking invs parts log0 (with_block r s k span run_log) spans0 spans' r s
blocking-turn invs parts log0 run_log spans0 spans spans' p q r s k path span c n f v push keeps =
    let g : Graph = G parts.traces in
    let b : Block = record { p = r; q = s; inv = k; path = path } in
    let bs : List Block = blocks_of run_log spans in
    let e : blocks_of (with_block r s k span run_log) spans' ≡ bs ++ b ∷ [] = blocks-more r s k path span run_log spans spans' c.held keeps push in
    let m : (more : List Merge) × (c.rest ≡ pair_of r s ∷ more) × Remain g r s more = remain-next g p q r s c.rest c.remain n in
    let here : spans.numbers ≡ spans0.numbers ++ paths_of bs = ap (λ (x : Numbers). x.numbers) c.paths in
    let long : length spans0.numbers ≤ length spans.numbers = omega (arith, ap (λ (ns : List ℕ). length ns) here, length-append spans0.numbers (paths_of bs)) in
    let numbers : spans.numbers ++ path ≡ spans0.numbers ++ paths_of (bs ++ b ∷ []) =
    ap (λ (ns : List ℕ). ns ++ path) here ∙ append_assoc spans0.numbers (paths_of bs) path ∙ ap (λ (ns : List ℕ). spans0.numbers ++ ns) (sym (paths-more bs b)) in
    record {
      rest = m.0;
      remain = m.2;
      pairs = ap (λ (xs : List Block). pairs_of xs ++ m.0) e ∙ pairs-more bs b m.0 ∙ ap (λ (ms : List Merge). pairs_of bs ++ ms) (sym m.1) ∙ c.pairs;
      each = subst (λ (xs : List Block). AllByRecursion (IsBlock invs g) xs) (sym e) (all-push (IsBlock invs g) bs b c.each (block-is invs g r s k path n.pair f v));
      held = held-more r s k path span run_log spans spans' c.held push;
      paths = push.appends ∙ ap (λ (x : Numbers). record x { numbers = spans.numbers ++ path }) c.paths
          ∙ ap (λ (ns : List ℕ). record spans0 { numbers = ns }) (numbers ∙ ap (λ (xs : List Block). spans0.numbers ++ paths_of xs) (sym e));
      stays = keeps-more spans0.numbers spans.numbers spans'.numbers c.stays keeps long;
      others = ap (λ (l : RunLists). record l { blocks = run_log.blocks ++ record { p = r; q = s; inv = k; path = span } ∷ [] }) c.others;
    }

-- there are as many pairs of blocks as blocks
pairs-count : (bs : List Block) → length (pairs_of bs) ≡ length bs
pairs-count bs = length-map bs (λ (b : Block). pair_of b.p b.q)

-- there are no more blocks than pairs
pub blocks-few : (invs : List Invariant) (parts : Parts) (log0 run_log : RunLists) (spans0 spans : Numbers) (p q : ℕ) → IsBlocking invs parts log0 run_log spans0 spans p q → length run_log.blocks ≤ pair_count parts
blocks-few invs parts log0 run_log spans0 spans p q c =
    let a : length (pairs_of (blocks_of run_log spans) ++ c.rest) ≡ length (pairs_of (blocks_of run_log spans)) + length c.rest = length-append (pairs_of (blocks_of run_log spans)) c.rest in
    let d : length (blocks_of run_log spans) ≡ length run_log.blocks = length-map run_log.blocks (block_of spans.numbers) in
    omega (arith, ap (λ (ms : List Merge). length ms) c.pairs, pairs-count (blocks_of run_log spans))

-- where a pair is left, there are fewer
pub blocks-fewer : (invs : List Invariant) (parts : Parts) (log0 run_log : RunLists) (spans0 spans : Numbers) (p q r s : ℕ) → IsBlocking invs parts log0 run_log spans0 spans p q
    → IsNextPair (G parts.traces) p q r s → length run_log.blocks < pair_count parts
blocks-fewer invs parts log0 run_log spans0 spans p q r s c n =
    let m : (more : List Merge) × (c.rest ≡ pair_of r s ∷ more) × Remain (G parts.traces) r s more = remain-next (G parts.traces) p q r s c.rest c.remain n in
    let a : length (pairs_of (blocks_of run_log spans) ++ c.rest) ≡ length (pairs_of (blocks_of run_log spans)) + length c.rest = length-append (pairs_of (blocks_of run_log spans)) c.rest in
    let d : length (blocks_of run_log spans) ≡ length run_log.blocks = length-map run_log.blocks (block_of spans.numbers) in
    omega (arith, ap (λ (ms : List Merge). length ms) c.pairs, ap (λ (ms : List Merge). length ms) m.1, pairs-count (blocks_of run_log spans))

-- the spans still hold all paths
pub blocking-holds : (invs : List Invariant) (parts : Parts) (log0 run_log : RunLists) (spans0 spans : Numbers) (p q : ℕ) → IsBlocking invs parts log0 run_log spans0 spans p q
    → HoldsPaths log0 spans0 → HoldsPaths run_log spans
blocking-holds invs parts log0 run_log spans0 spans p q c h =
    let long : length spans.numbers ≡ length spans0.numbers + length (paths_of (blocks_of run_log spans)) =
    ap (λ (x : Numbers). length x.numbers) c.paths ∙ length-append spans0.numbers (paths_of (blocks_of run_log spans)) in
    record {
      splits = subst (λ (es : List SplitEntry). All (λ (e : SplitEntry). IsWithin spans.numbers e.path) es) (sym (ap (λ (x : RunLists). x.splits) c.others))
          (All-weaker (λ (e : SplitEntry). IsWithin spans0.numbers e.path) (λ (e : SplitEntry). IsWithin spans.numbers e.path) (λ e w. omega (arith, w, long)) log0.splits h.splits);
      blocks = c.held;
    }

-- behind the last pair the blocks are those of all pairs
pub blocking-end : (invs : List Invariant) (parts : Parts) (log0 run_log : RunLists) (spans0 spans : Numbers) (p q : ℕ) → HasIds parts → IsBlocking invs parts log0 run_log spans0 spans p q
    → HasNoPairBehind (G parts.traces) p q → AreBlocks invs (G parts.traces) (blocks_of run_log spans)
blocking-end invs parts log0 run_log spans0 spans p q ids c n =
    let g : Graph = G parts.traces in
    let e : c.rest ≡ [] = remain-none g p q c.rest c.remain n in
    let pairs : pairs_of (blocks_of run_log spans) ≡ pairs_below parts.used g =
    sym (append-none (pairs_of (blocks_of run_log spans))) ∙ ap (λ (ms : List Merge). pairs_of (blocks_of run_log spans) ++ ms) (sym e) ∙ c.pairs in
    pairs_give_blocks invs g parts.used (blocks_of run_log spans) (parts-below parts ids) pairs c.each

-- where there is no pair, no block is the whole of them
pub blocking-none : (invs : List Invariant) (parts : Parts) (run_log : RunLists) (spans : Numbers) (r : Option Pair) → HasIds parts → run_log.blocks ≡ [] → is_some r ≡ false
    → MatchOption r (HasNoPairBehind (G parts.traces) 2 2) (λ (x : Pair). IsNextPair (G parts.traces) 2 2 x.p x.q) → AreBlocks invs (G parts.traces) (blocks_of run_log spans)
blocking-none invs parts run_log spans None ids e n f = blocking-end invs parts run_log run_log spans spans 2 2 ids (blocking-start invs parts run_log spans ids e) f
blocking-none invs parts run_log spans (Some x) ids e n f = absurd (true≢false n)

-- where the next path has more numbers than there is room for, the blocks end there
pub blocking-full : (invs : List Invariant) (parts : Parts) (log0 run_log : RunLists) (spans0 spans : Numbers) (p q r s k : ℕ) (path : List ℕ) → IsBlocking invs parts log0 run_log spans0 spans p q
    → IsNextPair (G parts.traces) p q r s → IsFirstBroken (Merged (G parts.traces) r s) invs k
    → IsLeastViolation (Merged (G parts.traces) r s) (get_or invs k none) path → 4000000 < length spans.numbers + length path
    → EndsWithoutRoom invs parts (blocks_of run_log spans) (length spans.numbers)
blocking-full invs parts log0 run_log spans0 spans p q r s k path c n f v l =
    let m : (more : List Merge) × (c.rest ≡ pair_of r s ∷ more) × Remain (G parts.traces) r s more = remain-next (G parts.traces) p q r s c.rest c.remain n in
    record {
      next = record { p = r; q = s; inv = k; path = path };
      rest = m.0;
      pairs = ap (λ (ms : List Merge). pairs_of (blocks_of run_log spans) ++ ms) (sym m.1) ∙ c.pairs;
      each = c.each;
      is_block = block-is invs (G parts.traces) r s k path n.pair f v;
      too_long = l;
    }

-- a pair has one block, so one path
one-path : (invs : List Invariant) (g : Graph) (x y : Block) → IsBlock invs g x → IsBlock invs g y → x.p ≡ y.p → x.q ≡ y.q → x.path ≡ y.path
one-path invs g x y a b e f =
    let bf : IsFirstBroken (Merged g x.p x.q) invs y.inv = subst₂ (λ (u v : ℕ). IsFirstBroken (Merged g u v) invs y.inv) (sym e) (sym f) b.first in
    let i : x.inv ≡ y.inv = one-broken (Merged g x.p x.q) invs x.inv y.inv a.first bf in
    let o : (inv : Invariant) × (slice_get invs x.inv ≡ Some inv) × (Satisfies (Merged g x.p x.q) inv → ⊥) = broken (Merged g x.p x.q) invs x.inv a.first in
    let at : slice_get invs y.inv ≡ Some o.0 = ap (λ (k : ℕ). slice_get invs k) (sym i) ∙ o.1 in
    one_least (Merged g x.p x.q) o.0 x.path y.path (a.least o.0 o.1)
    (subst₂ (λ (u v : ℕ). IsLeastViolation (Merged g u v) o.0 y.path) (sym e) (sym f) (b.least o.0 at))

-- so all blocks have at least the numbers of the first ones and of the next
no-less : (invs : List Invariant) (g : Graph) (done bs : List Block) (b : Block) (rest : List Merge) → pairs_of bs ≡ pairs_of done ++ pair_of b.p b.q ∷ rest
    → AllByRecursion (IsBlock invs g) bs → AllByRecursion (IsBlock invs g) done → IsBlock invs g b → block_numbers done + length b.path ≤ block_numbers bs
no-less invs g [] [] b rest e x y z = absurd (cc e)
no-less invs g [] (c ∷ bs) b rest e x y z =
    let m : pair_of c.p c.q ≡ pair_of b.p b.q = cc in
    let path : c.path ≡ b.path = one-path invs g c b x.0 z (ap (λ (d : Merge). d.p) m) (ap (λ (d : Merge). d.q) m) in
    omega (arith, ap (λ (ns : List ℕ). length ns) path, sum_by-cons (λ (d : Block). length d.path) c bs)
no-less invs g (d ∷ done) [] b rest e x y z = absurd (cc e)
no-less invs g (d ∷ done) (c ∷ bs) b rest e x y z =
    let m : pair_of c.p c.q ≡ pair_of d.p d.q = cc in
    let t : pairs_of bs ≡ pairs_of done ++ pair_of b.p b.q ∷ rest = cc in
    let path : c.path ≡ d.path = one-path invs g c d x.0 y.0 (ap (λ (u : Merge). u.p) m) (ap (λ (u : Merge). u.q) m) in
    let i : block_numbers done + length b.path ≤ block_numbers bs = no-less invs g done bs b rest t x.1 y.1 z in
    omega (arith, ap (λ (ns : List ℕ). length ns) path, sum_by-cons (λ (u : Block). length u.path) c bs, sum_by-cons (λ (u : Block). length u.path) d done)

each-block : (invs : List Invariant) (g : Graph) (bs : List Block) → AreBlocks invs g bs → AllByRecursion (IsBlock invs g) bs
each-block invs g bs a = all_from (IsBlock invs g) bs (λ b i. let k : (k : ℕ) × (slice_get bs k ≡ Some b) = In-get b bs i in a.each k.0 b k.1)

-- where the blocks end without room, those of all pairs have more numbers than there may be
pub blocking-limit : (invs : List Invariant) (parts : Parts) (run_log : RunLists) (spans0 spans : Numbers) → HasIds parts → EndsWithoutRoom invs parts (blocks_of run_log spans) (length spans.numbers)
    → spans ≡ record spans0 { numbers = spans0.numbers ++ paths_of (blocks_of run_log spans) } → (bs : List Block) → AreBlocks invs (G parts.traces) bs
    → 4000000 < length spans0.numbers + block_numbers bs
blocking-limit invs parts run_log spans0 spans ids w e bs a =
    let g : Graph = G parts.traces in
    let done : List Block = blocks_of run_log spans in
    let f : pairs_of bs ≡ pairs_below parts.used g = blocks_follow_pairs invs g parts.used bs (parts-below parts ids) a in
    let l : block_numbers done + length w.next.path ≤ block_numbers bs = no-less invs g done bs w.next w.rest (f ∙ sym w.pairs) (each-block invs g bs a) w.each w.is_block in
    let n : length spans.numbers ≡ length spans0.numbers + length (paths_of done) = ap (λ (x : Numbers). length x.numbers) e ∙ length-append spans0.numbers (paths_of done) in
    let m : length (paths_of done) ≡ block_numbers done = length-flat_map (λ (b : Block). b.path) done in
    let t : 4000000 < length spans.numbers + length w.next.path = w.too_long in
    omega arith

-- where no merge keeps all invariants, the merged graph does not satisfy all of them
pub none-lost : (invs : List Invariant) (h : Assignment) (r s : ℕ) → IsTyped h → IsPair (G h) r s → NoMerge invs h → SatisfiesAll (Merged (G h) r s) invs → ⊥
none-lost invs h r s t i n sat = n r s i ((merge_satisfies h r s t i invs).1 sat)

-- the graph does not satisfy the first invariant that is broken
pub is-broken : (g : Graph) (invs : List Invariant) (k : ℕ) → IsFirstBroken g invs k → Satisfies g (get_or invs k none) → ⊥
is-broken g invs k f sat =
    let o : (inv : Invariant) × (slice_get invs k ≡ Some inv) × (Satisfies g inv → ⊥) = broken g invs k f in
    o.2 (subst (λ (x : Invariant). Satisfies g x) (get_or_from_slice_get invs k o.0 none o.1) sat)

-- the number of the first invariant that is broken is one of the list
pub broken-within : (g : Graph) (invs : List Invariant) (k : ℕ) → IsFirstBroken g invs k → k < length invs
broken-within g invs k f =
    let o : (inv : Invariant) × (slice_get invs k ≡ Some inv) × (Satisfies g inv → ⊥) = broken g invs k f in
    slice_get_within invs k o.0 o.1

-- where there is a pair, the list of the pairs is not empty
pub pairs-some : (parts : Parts) (r : Option Pair) → HasIds parts → is_some r ≡ true → MatchOption r (HasNoPairBehind (G parts.traces) 2 2) (λ (x : Pair). IsNextPair (G parts.traces) 2 2 x.p x.q)
    → 0 < pair_count parts
pairs-some parts None ids e n = absurd (true≢false (sym e))
pairs-some parts (Some x) ids e n =
    remain-some (G parts.traces) 2 2 x.p x.q (pairs_below parts.used (G parts.traces)) (remain-start (G parts.traces) parts.used (parts-below parts ids)) n

-- where there is a first pair, there is one at least
pub some-pair : (parts : Parts) (p q : ℕ) → HasIds parts → IsNextPair (G parts.traces) 2 2 p q → 0 < pair_count parts
some-pair parts p q ids f =
    remain-some (G parts.traces) 2 2 p q (pairs_below parts.used (G parts.traces)) (remain-start (G parts.traces) parts.used (parts-below parts ids)) f

-- where there is none, there are none
pub no-pair : (parts : Parts) → HasIds parts → HasNoPairBehind (G parts.traces) 2 2 → 0 < pair_count parts → ⊥
no-pair parts ids n l =
    omega (arith, l, ap (λ (ms : List Merge). length ms) (remain-none (G parts.traces) 2 2 (pairs_below parts.used (G parts.traces)) (remain-start (G parts.traces) parts.used (parts-below parts ids)) n))

-- where a pair comes behind the first one, there are two at least
pub two-pairs : (parts : Parts) (p q : ℕ) (r : Option Pair) → HasIds parts → IsNextPair (G parts.traces) 2 2 p q → is_some r ≡ true
    → MatchOption r (HasNoPairBehind (G parts.traces) p q) (λ (x : Pair). IsNextPair (G parts.traces) p q x.p x.q) → 1 < pair_count parts
two-pairs parts p q None ids f e n = absurd (true≢false (sym e))
two-pairs parts p q (Some x) ids f e n =
    remain-two (G parts.traces) 2 2 p q x.p x.q (pairs_below parts.used (G parts.traces)) (remain-start (G parts.traces) parts.used (parts-below parts ids)) f n

-- where none does, the labels after its merge tell what each merge loses
pub only-pair : (planes : Labelling) (g : Graph) (p q : ℕ) (r : Option Pair) → IsNextPair g 2 2 p q → is_some r ≡ false
    → MatchOption r (HasNoPairBehind g p q) (λ (x : Pair). IsNextPair g p q x.p x.q) → AreLabelsOf planes (Merged g p q) → TellByLabels planes g
only-pair planes g p q None f e n l u v i =
    let o : (p ≡ u) × (q ≡ v) = one-pair g p q f n u v i in
    subst₂ (λ (x y : ℕ). AreLabelsOf planes (Merged g x y)) o.0 o.1 l
only-pair planes g p q (Some x) f e n l u v i = absurd (true≢false e)
