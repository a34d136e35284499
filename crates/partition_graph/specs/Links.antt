-- The links of a graph.
use Rattle.std.specs.Prelude.{ℕ, suc, ◌≡◌, ◌+◌, ◌*◌, ◌<◌, ◌≤◌, ◌⊎◌, ◌↔◌, true, List, [], ◌∷◌, length, All, Contains}
use Rattle.limits.specs.declared.TheConstants.{MAX_PARTITIONS}
use Rattle.partition_model.specs.Graphs.{Graph}
use Rattle.partition_graph.specs.declared.links.Link.{Link}

-- both ends of a link are below the limit on ids
abbrev pub HasIds : Link → Type 0
HasIds link = (link.from < MAX_PARTITIONS) × (link.to < MAX_PARTITIONS)

-- the links ascend strictly, and none is before this place
abbrev pub AscendLinks : ℕ → ℕ → List Link → Type 0
AscendLinks p q [] = Unit {0}
AscendLinks p q (x ∷ xs) = ((p < x.from) ⊎ ((p ≡ x.from) × (q ≤ x.to))) × AscendLinks x.from (suc x.to) xs

-- the list has each edge of the graph once, as a link, in order, and no others
pub record AreLinksOf (links : List Link) (g : Graph) : Type 0 where
  pub order : AscendLinks 0 0 links
  pub ids : All HasIds links
  pub edges : (link : Link) → Contains links link ↔ (g.edge link.from link.to ≡ true)

-- the link is before (p, q): it leaves a lower id than p, or leads from p to a lower id than q
abbrev pub IsLinkBefore : ℕ → ℕ → Link → Type 0
IsLinkBefore p q link = (link.from < p) ⊎ ((link.from ≡ p) × (link.to < q))

-- the links before a place, and there are no more of them than places before it
pub record AreLinksBefore (links : List Link) (g : Graph) (p q : ℕ) : Type 0 where
  pub order : AscendLinks 0 0 links
  pub ids : All HasIds links
  pub edges : (link : Link) → Contains links link ↔ ((g.edge link.from link.to ≡ true) × IsLinkBefore p q link)
  pub few : length links ≤ p * MAX_PARTITIONS + q
