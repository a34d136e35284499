use Rattle.std.proofs.Common.{◌≡◌, ◌∷◌, ◌+◌, ◌<◌, ℕ, List, length, drop, map, get_or, refl, sym, ◌∙◌, ap, subst₂, arith}
use Rattle.std.proofs.lemmas.List.{drop_more}
use Rattle.invariants.specs.declared.records.Partition.{Partition}
use Rattle.invariants.specs.Labels.{number_of}
use Rattle.model_check.proofs.Together.{IsFilledUpTo, filled-none, filled-more, filled-all, others-more, put-others}
use Rattle.model_check.proofs.columns.fill_column.Goals as goal

pub loop-i-init : goal.loop-i-init
loop-i-init c =
    record {
      filled = filled-none c.args.partitions.now (map number_of c.args.given.now) c.args.columns.now.labels.items c.args.k c.requires.apart;
      others = λ d p l n. refl;
    }

pub loop-i-preserved : goal.loop-i-preserved
loop-i-preserved c =
    let xs : List Partition = c.args.partitions.now in
    let ds : List ℕ = c.args.given.now in
    let i : ℕ = c.loop-i.i in
    let x : Partition = get_or xs i (record { id = 0; typ = 0; count = 0 }) in
    let label : ℕ = c.of-label.result in
    let labels : List ℕ = c.loop-i.columns.labels.items in
    let rest : drop i xs ≡ x ∷ drop (i + 1) xs = drop_more xs i (record { id = 0; typ = 0; count = 0 }) c.loop-i-test.true in
    let within : i < length ds = omega (arith, c.loop-i-test.true, c.requires.count) in
    let digits : map number_of (drop i ds) ≡ label ∷ map number_of (drop (i + 1) ds) =
    ap (λ (ys : List ℕ). map number_of ys) (drop_more ds i 0 within) ∙ ap (λ (n : ℕ). n ∷ map number_of (drop (i + 1) ds)) (sym c.of-label.ensures) in
    let before : IsFilledUpTo xs (x ∷ drop (i + 1) xs) (map number_of ds) (label ∷ map number_of (drop (i + 1) ds)) labels c.args.k =
    subst₂ (λ (ys : List Partition) (ns : List ℕ). IsFilledUpTo xs ys (map number_of ds) ns labels c.args.k) rest digits c.loop-i.invariant.filled in
    record {
      filled =
          filled-more xs (drop (i + 1) xs) (map number_of ds) (map number_of (drop (i + 1) ds)) labels c.put_label.new.self.labels.items c.args.k label x c.requires.column c.put_label.ensures.labels before;
      others = others-more c.args.columns.now.labels.items labels c.put_label.new.self.labels.items c.args.k c.loop-i.invariant.others (put-others labels c.put_label.new.self.labels.items c.args.k _ _ c.put_label.ensures.labels);
    }

pub returns-clause-column : goal.returns-clause-column
returns-clause-column c =
    filled-all c.args.partitions.now (map number_of c.args.given.now) (map number_of (drop c.loop-i.i c.args.given.now)) c.loop-i.columns.labels.items c.args.k c.loop-i.i c.loop-i-test.false
    c.loop-i.invariant.filled
