-- Links that are gathered one after another.
use Rattle.std.proofs.Common.{◌≡◌, ℕ, suc, ◌⊎◌, ◌+◌, ◌*◌, ◌<◌, ◌≤◌, true, List, [], ◌∷◌, ◌++◌, length, arith, ap, sym, ◌∙◌, refl, subst, inl, inr, ap₂, true≢false}
use Rattle.std.proofs.lemmas.Bool.{cases_lt, cases_eq}
use Rattle.std.proofs.lemmas.List.{length_push}
use Rattle.std.proofs.lemmas.List.Elements.{All-push, Contains-push, Contains-push_cases, Contains-append_left, Contains-append_right, Contains-get_or}
use Rattle.std.specs.List.{Contains}
use Rattle.limits.specs.declared.TheConstants.{MAX_PARTITIONS}
use Rattle.partition_model.specs.Graphs.{Graph}
use Rattle.partition_graph.specs.declared.links.Link.{Link}
use Rattle.partition_graph.specs.Links.{HasIds, AscendLinks, AreLinksBefore, IsLinkBefore}
use Rattle.partition_graph.specs.Neighbours.{IsNextTarget, HasNoTarget}

-- one more link behind all others
ascend-push : (p q : ℕ) (xs : List Link) (new : Link) → AscendLinks p q xs → (p < new.from) ⊎ ((p ≡ new.from) × (q ≤ new.to)) → ((x : Link) → Contains xs x → IsLinkBefore new.from new.to x)
    → AscendLinks p q (xs ++ new ∷ [])
ascend-push p q [] new a above f = (above, tt)
ascend-push p q (x ∷ xs) new a above f =
    let before : IsLinkBefore new.from new.to x = f x (Contains-get_or (x ∷ xs) 0 x (omega arith)) in (
      a.0,
      ascend-push x.from (suc x.to) xs new a.1
          (elim before [ inl l ↦ inl l | inr l ↦ inr (l.0, (let r : x.to < new.to = l.1 in omega arith)) ])
          (λ y c. f y (Contains-append_right (x ∷ []) xs y c)),
    )

-- the first place is before none
from-zero : (x y : ℕ) → (0 < x) ⊎ ((0 ≡ x) × (0 ≤ y))
from-zero x y = elim (cases_lt 0 x) [ inl l ↦ inl l | inr l ↦ inr (omega arith, omega arith) ]

-- one more link of the id
pub one_more : (g : Graph) (links : List Link) (from reached to : ℕ) → from < MAX_PARTITIONS → to < MAX_PARTITIONS → AreLinksBefore links g from reached → IsNextTarget g from reached to
    → AreLinksBefore (links ++ record { from = from; to = to } ∷ []) g from (to + 1)
one_more g links from reached to a b l n =
    let new : Link = record { from = from; to = to } in
    record {
      order = ascend-push 0 0 links new l.order (from-zero from to) (λ link i. elim ((l.edges link).0 i).1 [
        | inl k ↦ inl k
        | inr k ↦ inr (k.0, (let r : link.to < reached = k.1 in let s : reached ≤ to = n.reached in omega (arith, r, s)))
      ]);
      ids = All-push HasIds links new l.ids (a, b);
      edges = λ link. (
        λ i. elim (Contains-push_cases links new link i) [
          | inl old ↦
              let e : (g.edge link.from link.to ≡ true) × IsLinkBefore from reached link = (l.edges link).0 old in
              (e.0, elim e.1 [ inl k ↦ inl k | inr k ↦ inr (k.0, (let r : link.to < reached = k.1 in let s : reached ≤ to = n.reached in omega (arith, r, s))) ])
          | inr is ↦ subst (λ (x : Link). (g.edge x.from x.to ≡ true) × IsLinkBefore from (to + 1) x) is (n.edge, inr (refl, omega arith))
        ],
        λ e. elim e.1 [
          | inl k ↦ Contains-append_left links (new ∷ []) link ((l.edges link).1 (e.0, inl k))
          | inr k ↦
              let row : link.from ≡ from = k.0 in
              let below : link.to < to + 1 = k.1 in
              elim (cases_lt link.to reached) [
                | inl m ↦ Contains-append_left links (new ∷ []) link ((l.edges link).1 (e.0, inr (row, m)))
                | inr m ↦
                    elim (cases_eq link.to to) [
                      | inl is ↦ subst (λ (x : Link). Contains (links ++ new ∷ []) x) (ap₂ (λ (x y : ℕ). let z : Link = record { from = x; to = y } in z) (sym row) (sym is)) (Contains-push links new)
                      | inr other ↦ absurd (true≢false (sym e.0 ∙ ap (λ (x : ℕ). g.edge x link.to) row ∙ n.first link.to m (omega (arith, below, other))))
                    ]
              ]
        ],
      );
      few = (let f : length links ≤ from * MAX_PARTITIONS + reached = l.few in let s : reached ≤ to = n.reached in let p : length (links ++ new ∷ []) ≡ length links + 1 = length_push links new in omega (arith, f, s, p));
    }

-- the links of the id are all there
pub row_linked : (g : Graph) (links : List Link) (from reached : ℕ) → reached ≤ MAX_PARTITIONS → AreLinksBefore links g from reached → HasNoTarget g from reached → AreLinksBefore links g (from + 1) 0
row_linked g links from reached most l n =
    record {
      order = l.order;
      ids = l.ids;
      edges = λ link. (
        λ i.
            let e : (g.edge link.from link.to ≡ true) × IsLinkBefore from reached link = (l.edges link).0 i in
            (e.0, inl (elim e.1 [ inl k ↦ omega arith | inr k ↦ (let row : link.from ≡ from = k.0 in omega arith) ])),
        λ e. (l.edges link).1 (
          e.0,
          elim e.1 [
            | inl k ↦
                elim (cases_lt link.from from) [
                  | inl m ↦ inl m
                  | inr m ↦
                      let row : link.from ≡ from = omega (arith, k, m) in
                      elim (cases_lt link.to reached) [
                        | inl s ↦ inr (row, s)
                        | inr s ↦ absurd (true≢false (sym e.0 ∙ ap (λ (x : ℕ). g.edge x link.to) row ∙ n link.to s))
                      ]
                ]
            | inr k ↦ absurd (let r : link.to < 0 = k.1 in omega arith)
          ],
        ),
      );
      few = (let f : length links ≤ from * MAX_PARTITIONS + reached = l.few in omega (arith, f, most));
    }
