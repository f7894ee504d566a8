-- The names that a table has given, when one more is given.
use Rattle.std.proofs.Common.{◌≡◌, ◌≢◌, ℕ, ◌+◌, ◌<◌, ◌≤◌, List, [], ◌∷◌, ◌++◌, sum, slice_index, get_or, All, Contains, length-append, sym, ap, subst, arith}
use Rattle.std.proofs.lemmas.List.Elements.{All-append}
use Rattle.std.proofs.lemmas.List.Quantifiers.{all_pairs_push}
use Rattle.handle_table.specs.Name.{generation_of, index_of}
use Rattle.handle_table.specs.Given.{AreNames}

-- The next generation of an index was never given.
module _ (old names : List ℕ) (name : ℕ) (next : slice_index old (index_of name) ≡ generation_of name) (were : AreNames old names) where
  differs : (other : ℕ) → generation_of other < slice_index old (index_of other) → index_of other ≡ index_of name → generation_of other ≢ generation_of name
  differs other given same_index same_generation =
      let there : slice_index old (index_of other) ≡ slice_index old (index_of name) = ap (slice_index old) same_index in
      omega arith

  pub AreNames-fresh : ¬ Contains names name
  AreNames-fresh found =
      let given = were.each found.0 name found.1 in
      let P : ℕ → Type 0 = λ n. generation_of n < slice_index old (index_of n) in
      let too : generation_of name < slice_index old (index_of name) = subst P found.2 given in
      omega arith

  module _ (new : List ℕ) (more : sum new ≡ sum old + 1) (now : slice_index new (index_of name) ≡ generation_of name + 1) (kept : (i : ℕ) → slice_index old i ≤ slice_index new i) where
    below : All (λ n. generation_of n < slice_index new (index_of n)) names
    below k d within =
        let given = were.each k d within in
        let grown = kept (index_of (get_or names k d)) in
        omega arith

    last : All (λ n. generation_of n < slice_index new (index_of n)) (name ∷ [])
    last k d within =
        let first : k ≡ 0 = omega arith in
        let P : ℕ → Type 0 = λ j. generation_of (get_or (name ∷ []) j d) < slice_index new (index_of (get_or (name ∷ []) j d)) in
        subst P (sym first) (let here : generation_of name < slice_index new (index_of name) = omega arith in here)

    pub AreNames-more : AreNames new (names ++ name ∷ [])
    AreNames-more = record {
      count = omega (arith, length-append names (name ∷ []), were.count);
      each = All-append (λ n. generation_of n < slice_index new (index_of n)) names (name ∷ []) below last;
      once = all_pairs_push (λ a b. index_of a ≡ index_of b → generation_of a ≢ generation_of b) names name were.once (λ k d within. differs (get_or names k d) (were.each k d within));
    }
