-- The first node of a list.
use Rattle.std.proofs.Common.{◌≡◌, ℕ, ◌<◌, List, [], ◌∷◌, length, set, Some, None, option_map, refl, sym, ap, ◌∙◌, arith}
use Rattle.std.specs.List.{Contains, slice_get}
use Rattle.std.proofs.lemmas.List.{get_or-set_same, set-get_or, set-set}
use Rattle.index_lists.specs.Lists.{Link, list_at}

pub record BeginsWith (list : List Link) (node : ℕ) : Type 0 where
  pub link : Link
  pub rest : List Link
  pub is : list ≡ link ∷ rest
  pub node_is : link.node ≡ node

pub BeginsWith-from_first : (list : List Link) (node : ℕ) → Some node ≡ option_map (λ (link : Link). link.node) (slice_get list 0) → BeginsWith list node
BeginsWith-from_first [] node first = absurd (cc)
BeginsWith-from_first (link ∷ rest) node first = record { link = link; rest = rest; is = refl; node_is = cc }

pub nil-from_first : (list : List Link) → None ≡ option_map (λ (link : Link). link.node) (slice_get list 0) → list ≡ []
nil-from_first [] first = refl
nil-from_first (link ∷ rest) first = absurd (cc)

pub Contains-first : (list : List Link) (node : ℕ) (begins : BeginsWith list node) → Contains list begins.link
Contains-first list node begins = rw begins.is (0, omega arith, refl)

-- One node less, and the list can still be emptied to the same lists.
pub set-set_rest : (old new : List (List Link)) (i : ℕ) (rest : List Link) → new ≡ set old i rest → set new i [] ≡ set old i []
set-set_rest old new i rest is = ap (λ lists. set lists i []) is ∙ set-set old i rest []

pub shorter : (old new : List (List Link)) (i node : ℕ) (begins : BeginsWith (list_at old i) node) → i < length old → new ≡ set old i begins.rest → length (list_at new i) < length (list_at old i)
shorter old new i node begins within is =
    let now : list_at new i ≡ begins.rest = ap (λ lists. list_at lists i) is ∙ get_or-set_same old i begins.rest [] within in
    rw (now, begins.is) (omega arith)

pub set_emptied : (lists : List (List Link)) (i : ℕ) → list_at lists i ≡ [] → set lists i [] ≡ lists
set_emptied lists i empty = ap (set lists i) (sym empty) ∙ set-get_or lists i []
