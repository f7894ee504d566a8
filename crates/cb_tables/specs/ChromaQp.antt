-- H.264, Table 8-15: QPc as a function of qPI.
use Rattle.std.specs.Prelude.{ℕ, ◌-◌, nat_lt, if◌then◌else◌, List, [], ◌∷◌, slice_index}

-- qPI 30 to 51
unfoldable pub from_30 : List ℕ
from_30 =
    29 ∷ 30 ∷ 31 ∷ 32 ∷ 32 ∷ 33 ∷ 34 ∷ 34 ∷ 35 ∷ 35 ∷ 36 ∷
    36 ∷ 37 ∷ 37 ∷ 37 ∷ 38 ∷ 38 ∷ 38 ∷ 39 ∷ 39 ∷ 39 ∷ 39 ∷
    []

-- Below 30, QPc is qPI.
unfoldable pub chroma_qp_at : ℕ → ℕ
chroma_qp_at index = if nat_lt index 30 then index else slice_index from_30 (index - 30)
