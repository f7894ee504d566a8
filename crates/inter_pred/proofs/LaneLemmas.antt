-- One lane of vectors that are computed from others.
use Rattle.std.proofs.Common.{◌≡◌, ℕ, ◌+◌, ◌-◌, ◌*◌, ◌/◌, ◌%◌, ◌^◌, ◌<◌, ◌≤◌, max, min, List, length, get_or, replicate, map, take, drop, Bool, false, cond, ltb, inl, inr, w8, w16, refl, ap, sym, ◌∙◌, arith}
use lib.Lanes.{Each1, chunk, put_chunk, sel_l, top, zip2}
use mir.Val.{Fits, bits, hbits}
use Rattle.inter_pred.specs.Rows.{raised}
use Rattle.std.proofs.lemmas.Bool.{cases_lt}
use Rattle.std.proofs.lemmas.Bool.Decides.{nat_tests}
use Rattle.std.proofs.lemmas.List.{length-map, get_or-map}
use Rattle.std.proofs.lemmas.Simd.{Each1-from_get_or, Each1-get_or, get_or-chunk, get_or-put_chunk_at, get_or-put_chunk_below, get_or-replicate, get_or-sel_l, get_or-zip2, length-chunk, length-put_chunk, length-replicate, length-sel_l, length-zip2, put_chunk_whole, tops_compared}

-- lane k of the eight of a vector
pub record Lane (k : ℕ) (v : List ℕ) (x : ℕ) : Type 0 where
  pub count : length v ≡ 8
  pub within : k < 8
  pub here : get_or v k 0 ≡ x

pub lane : (k : ℕ) (v : List ℕ) (x : ℕ) → length v ≡ 8 → k < 8 → get_or v k 0 ≡ x → Lane k v x
lane k v x count within here = record { count = count; within = within; here = here }

-- eight elements of a slice
pub loaded : (k at : ℕ) (xs : List ℕ) → k < 8 → at + 8 ≤ length xs → Lane k (take 8 (drop at xs)) (get_or xs (at + k) 0)
loaded k at xs within room = record { count = length-chunk at 8 xs room; within = within; here = get_or-chunk at 8 xs k 0 within }

pub one : {k x : ℕ} {xs : List ℕ} (f : ℕ → ℕ) → Lane k xs x → Lane k (map f xs) (f x)
one {k} {x} {xs} f a = record {
  count = length-map xs f ∙ a.count;
  within = a.within;
  here = get_or-map f xs k 0 0 (omega (arith, a.count, a.within)) ∙ ap f a.here;
}

pub both : {k x y : ℕ} {xs ys : List ℕ} (f : ℕ → ℕ → ℕ) → Lane k xs x → Lane k ys y → Lane k (zip2 f xs ys) (f x y)
both {k} {x} {y} {xs} {ys} f a b = record {
  count = length-zip2 f xs ys (omega (arith, a.count, b.count)) ∙ a.count;
  within = a.within;
  here = get_or-zip2 f xs ys k 0 0 0 (omega (arith, a.count, a.within)) (omega (arith, b.count, b.within)) ∙ (ap (λ u. f u (get_or ys k 0)) a.here ∙ ap (f x) b.here);
}

pub all : (k c : ℕ) → k < 8 → Lane k (replicate 8 c) c
all k c within = record { count = length-replicate 8 c; within = within; here = get_or-replicate 8 k c 0 within }

-- of two vectors, the one that a test of two others chooses
pub chosen : {k x y u v : ℕ} {xs ys us vs : List ℕ} (t : ℕ → ℕ → Bool) → Lane k xs x → Lane k ys y → Lane k us u → Lane k vs v
    → Lane k (sel_l (map (top (hbits w16)) (zip2 (λ a b. cond (t a b) (2 ^ bits w16 - 1) 0) xs ys)) us vs) (cond (t x y) u v)
chosen {k} {x} {y} {u} {v} {xs} {ys} {us} {vs} t a b c d =
    let tests : List Bool = zip2 t xs ys in
    let is = ap (λ ms. sel_l ms us vs) (tops_compared w16 t xs ys) in
    let long : length tests ≡ 8 = length-zip2 t xs ys (omega (arith, a.count, b.count)) ∙ a.count in
    record {
      count = ap length is ∙ (length-sel_l tests us vs (omega (arith, long, c.count)) (omega (arith, long, d.count)) ∙ long);
      within = a.within;
      here = ap (λ l. get_or l k 0) is
          ∙ (get_or-sel_l tests us vs k 0 (omega (arith, long, a.within)) (omega (arith, c.count, a.within)) (omega (arith, d.count, a.within))
          ∙ (ap (λ m. cond m (get_or us k 0) (get_or vs k 0)) (get_or-zip2 t xs ys k 0 0 false (omega (arith, a.count, a.within)) (omega (arith, b.count, a.within)) ∙ (ap (λ z. t z (get_or ys k 0)) a.here ∙ ap (t x) b.here))
          ∙ (ap (λ z. cond (t x y) z (get_or vs k 0)) c.here ∙ ap (λ z. cond (t x y) u z) d.here)));
    }

-- the operations of vectors of 16 bits
abbrev pub w_add : List ℕ → List ℕ → List ℕ
w_add = zip2 (λ x y. (x + y) % 65536)

abbrev pub w_sub : List ℕ → List ℕ → List ℕ
w_sub = zip2 (λ x y. (x + (65536 - y)) % 65536)

abbrev pub w_mul : List ℕ → ℕ → List ℕ
w_mul xs c = zip2 (λ x y. (x * y) % 65536) xs (replicate 8 c)

abbrev pub w_shr : List ℕ → ℕ → List ℕ
w_shr xs n = zip2 (λ x y. x / 2 ^ y) xs (replicate 8 n)

-- whether each lane is below its fellow
abbrev below : List ℕ → List ℕ → List Bool
below xs ys = map (top (hbits w16)) (zip2 (λ x y. cond (ltb x y) (2 ^ bits w16 - 1) 0) xs ys)

abbrev pub w_max : List ℕ → List ℕ → List ℕ
w_max xs ys = sel_l (below xs ys) ys xs

abbrev pub w_min : List ℕ → List ℕ → List ℕ
w_min xs ys = sel_l (below xs ys) xs ys

-- a sum that stays at its greatest, as x + min(y, 65535 - x)
abbrev pub w_add_sat : List ℕ → List ℕ → List ℕ
w_add_sat xs ys = w_add xs (w_min ys (map (λ x. 65535 - x) xs))

abbrev pub w_sub_sat : List ℕ → List ℕ → List ℕ
w_sub_sat xs ys = w_sub (w_max xs ys) ys

small_sum : (x y : ℕ) → x + y < 65536 → (x + y) % 65536 ≡ x + y
small_sum x y small = omega arith

small_difference : (x y : ℕ) → y ≤ x → x < 65536 → (x + (65536 - y)) % 65536 ≡ x - y
small_difference x y le small = omega arith

small_product : (z : ℕ) → z < 65536 → z % 65536 ≡ z
small_product z small = omega arith

pub renamed : {k x : ℕ} {v : List ℕ} → Lane k v x → (y : ℕ) → x ≡ y → Lane k v y
renamed a y is = record { count = a.count; within = a.within; here = a.here ∙ is }

pub add_lane : {k x y : ℕ} {xs ys : List ℕ} → Lane k xs x → Lane k ys y → x + y < 65536 → Lane k (w_add xs ys) (x + y)
add_lane {k} {x} {y} a b small = renamed (both (λ (u v : ℕ). (u + v) % 65536) a b) (x + y) (small_sum x y small)

pub sub_lane : {k x y : ℕ} {xs ys : List ℕ} → Lane k xs x → Lane k ys y → y ≤ x → x < 65536 → Lane k (w_sub xs ys) (x - y)
sub_lane {k} {x} {y} a b le small = renamed (both (λ (u v : ℕ). (u + (65536 - v)) % 65536) a b) (x - y) (small_difference x y le small)

pub mul_lane : {k x : ℕ} {xs : List ℕ} (c : ℕ) → Lane k xs x → x * c < 65536 → Lane k (w_mul xs c) (x * c)
mul_lane {k} {x} c a small = renamed (both (λ (u v : ℕ). (u * v) % 65536) a (all k c a.within)) (x * c) (small_product (x * c) small)

pub shr_lane : {k x : ℕ} {xs : List ℕ} (n : ℕ) → Lane k xs x → Lane k (w_shr xs n) (x / 2 ^ n)
shr_lane {k} {x} n a = both (λ (u v : ℕ). u / 2 ^ v) a (all k n a.within)

max_is : (x y : ℕ) → cond (ltb x y) y x ≡ max x y
max_is x y = grind (arith, nat_tests)

min_is : (x y : ℕ) → cond (ltb x y) x y ≡ min x y
min_is x y = grind (arith, nat_tests)

pub max_lane : {k x y : ℕ} {xs ys : List ℕ} → Lane k xs x → Lane k ys y → Lane k (w_max xs ys) (max x y)
max_lane {k} {x} {y} a b = renamed (chosen ltb a b b a) (max x y) (max_is x y)

pub min_lane : {k x y : ℕ} {xs ys : List ℕ} → Lane k xs x → Lane k ys y → Lane k (w_min xs ys) (min x y)
min_lane {k} {x} {y} a b = renamed (chosen ltb a b a b) (min x y) (min_is x y)

saturated : (x y : ℕ) → x < 65536 → x + min y (65535 - x) ≡ min (x + y) 65535
saturated x y small = omega arith

pub add_sat_lane : {k x y : ℕ} {xs ys : List ℕ} → Lane k xs x → Lane k ys y → x < 65536 → Lane k (w_add_sat xs ys) (min (x + y) 65535)
add_sat_lane {k} {x} {y} a b small = renamed (add_lane a (min_lane b (one (λ (u : ℕ). 65535 - u) a)) (omega arith)) (min (x + y) 65535) (saturated x y small)

cut_off : (x y : ℕ) → max x y - y ≡ x - y
cut_off x y = omega arith

pub sub_sat_lane : {k x y : ℕ} {xs ys : List ℕ} → Lane k xs x → Lane k ys y → x < 65536 → y < 65536 → Lane k (w_sub_sat xs ys) (x - y)
sub_sat_lane {k} {x} {y} a b x_small y_small = renamed (sub_lane (max_lane a b) b (omega arith) (omega arith)) (x - y) (cut_off x y)

-- a lane fits 16 bits
pub lane_fits : (v : List ℕ) (k : ℕ) → length v ≡ 8 → Each1 (Fits w16) v → k < 8 → get_or v k 0 < 65536
lane_fits v k count fits within = (Each1-get_or (Fits w16) v k 0 (omega arith) fits).fits

pub itself : (v : List ℕ) (k : ℕ) → length v ≡ 8 → k < 8 → Lane k v (get_or v k 0)
itself v k count within = lane k v (get_or v k 0) count within refl

abbrev pub clipped_of : List ℕ → ℕ → List ℕ
clipped_of v raised = w_min (w_sub_sat v (replicate 8 raised)) (replicate 8 255)

pub clipped_lane : (v : List ℕ) (raised k : ℕ) → length v ≡ 8 → Each1 (Fits w16) v → raised < 65536 → k < 8 → Lane k (clipped_of v raised) (min (get_or v k 0 - raised) 255)
clipped_lane v raised k count fits small within =
    min_lane (sub_sat_lane (itself v k count within) (all k raised within) (lane_fits v k count fits within) small) (all k 255 within)

pub clipped_fits : (v : List ℕ) (raised : ℕ) → length v ≡ 8 → Each1 (Fits w16) v → raised < 65536 → Each1 (Fits w8) (clipped_of v raised)
clipped_fits v raised count fits small =
    let long = (clipped_lane v raised 0 count fits small (omega arith)).count in
    Each1-from_get_or (Fits w8) (clipped_of v raised) 0
    (λ k lt. record { fits = omega (arith, (clipped_lane v raised k count fits small (omega arith)).here) })

-- six vectors under the six taps, raised
abbrev pub raised_of : List ℕ → List ℕ → List ℕ → List ℕ → List ℕ → List ℕ → List ℕ
raised_of e f g h i j = w_sub (w_add (w_add (w_add e j) (w_mul (w_add g h) 20)) (replicate 8 2560)) (w_mul (w_add f i) 5)

pub raised_lane : (k e f g h i j : ℕ) (ve vf vg vh vi vj : List ℕ) → Lane k ve e → Lane k vf f → Lane k vg g → Lane k vh h → Lane k vi i → Lane k vj j
    → e < 256 → f < 256 → g < 256 → h < 256 → i < 256 → j < 256 → Lane k (raised_of ve vf vg vh vi vj) (raised e f g h i j)
raised_lane k e f g h i j ve vf vg vh vi vj le lf lg lh li lj e_fits f_fits g_fits h_fits i_fits j_fits =
    renamed
    (sub_lane (add_lane (add_lane (add_lane le lj (omega arith)) (mul_lane 20 (add_lane lg lh (omega arith)) (omega arith)) (omega arith)) (all k 2560 le.within) (omega arith)) (mul_lane 5 (add_lane lf li (omega arith)) (omega arith)) (omega arith) (omega arith))
    (raised e f g h i j) (omega arith)

abbrev pub centre_of : List ℕ → List ℕ → List ℕ → List ℕ → List ℕ → List ℕ → List ℕ
centre_of e f g h i j =
    let outer = w_add e j in
    let next = w_add f i in
    let inner = w_add g h in
    w_shr (w_add (w_shr (w_add_sat (w_add (w_shr (w_sub (w_add outer (replicate 8 26540)) next) 2) inner) (w_sub (replicate 8 26773) next)) 2) inner) 6

abbrev pub by_steps : ℕ → ℕ → ℕ → ℕ
by_steps a b c = (min ((a + 26540 - b) / 4 + c + (26773 - b)) 65535 / 4 + c) / 64

-- a sum over 1,024 in steps
pub steps_are : (a b c : ℕ) → a ≤ 26540 → b ≤ 26540 → c ≤ 26540 → min (by_steps a b c - 210) 255 ≡ min ((a + 20 * c + 655872 - 5 * b) / 1024 - 720) 255
steps_are a b c a_le b_le c_le = omega arith

pub centre_lane : (k e f g h i j : ℕ) (ve vf vg vh vi vj : List ℕ) → Lane k ve e → Lane k vf f → Lane k vg g → Lane k vh h → Lane k vi i → Lane k vj j
    → e ≤ 13270 → f ≤ 13270 → g ≤ 13270 → h ≤ 13270 → i ≤ 13270 → j ≤ 13270 → Lane k (centre_of ve vf vg vh vi vj) (by_steps (e + j) (f + i) (g + h))
centre_lane k e f g h i j ve vf vg vh vi vj le lf lg lh li lj e_fits f_fits g_fits h_fits i_fits j_fits =
    let outer = add_lane le lj (omega arith) in
    let next = add_lane lf li (omega arith) in
    let inner = add_lane lg lh (omega arith) in
    let quarter = shr_lane 2 (sub_lane (add_lane outer (all k 26540 le.within) (omega arith)) next (omega arith) (omega arith)) in
    let raised = add_sat_lane (add_lane quarter inner (omega arith)) (sub_lane (all k 26773 le.within) next (omega arith) (omega arith)) (omega arith) in
    shr_lane 6 (add_lane (shr_lane 2 raised) inner (omega arith))

abbrev pub mean_vector : List ℕ → List ℕ → List ℕ
mean_vector u v = w_shr (w_add (w_add u v) (replicate 8 1)) 1

pub mean_lane : (k x y : ℕ) (u v : List ℕ) → Lane k u x → Lane k v y → x < 256 → y < 256 → Lane k (mean_vector u v) ((x + y + 1) / 2)
mean_lane k x y u v a b x_fits y_fits = shr_lane 1 (add_lane (add_lane a b (omega arith)) (all k 1 a.within) (omega arith))

-- the means of samples are samples
pub mean_fits : (u v : List ℕ) → length u ≡ 8 → length v ≡ 8 → ((k : ℕ) → k < 8 → get_or u k 0 < 256) → ((k : ℕ) → k < 8 → get_or v k 0 < 256) → Each1 (Fits w8) (mean_vector u v)
mean_fits u v u_count v_count u_fits v_fits =
    let at = λ (k : ℕ) (lt : k < 8). mean_lane k (get_or u k 0) (get_or v k 0) u v (itself u k u_count lt) (itself v k v_count lt) (u_fits k lt) (v_fits k lt) in
    let long = (at 0 (omega arith)).count in
    Each1-from_get_or (Fits w8) (mean_vector u v) 0
    (λ k lt. let within : k < 8 = omega arith in let x = u_fits k within in let y = v_fits k within in record { fits = omega (arith, (at k within).here) })

eight : (f : ℕ → ℕ → ℕ) (u v : List ℕ) → length u ≡ 8 → length v ≡ 8 → length (zip2 f u v) ≡ 8
eight f u v u_count v_count = length-zip2 f u v (u_count ∙ sym v_count) ∙ u_count

pub length-raised_of : (e f g h i j : List ℕ) → length e ≡ 8 → length f ≡ 8 → length g ≡ 8 → length h ≡ 8 → length i ≡ 8 → length j ≡ 8 → length (raised_of e f g h i j) ≡ 8
length-raised_of e f g h i j e_count f_count g_count h_count i_count j_count =
    eight _ _ _ (eight _ _ _ (eight _ _ _ (eight _ _ _ e_count j_count) (eight _ _ _ (eight _ _ _ g_count h_count) refl)) refl) (eight _ _ _ (eight _ _ _ f_count i_count) refl)

-- eight more elements of a row, behind those that stand already
pub more_lanes : (f : ℕ → ℕ) (at : ℕ) (xs v : List ℕ) → length v ≡ 8 → at + 8 ≤ length xs → ((k : ℕ) → k < at → get_or xs k 0 ≡ f k) → ((k : ℕ) → k < 8 → get_or v k 0 ≡ f (at + k)) → (k : ℕ) → k < at + 8
    → get_or (put_chunk at xs v) k 0 ≡ f k
more_lanes f at xs v count room before here k within = elim (cases_lt k at) [
  | inl lt ↦ get_or-put_chunk_below at xs v k 0 lt ∙ before k lt
  | inr le ↦
      let place : k ≡ at + (k - at) = omega arith in
      ap (λ n. get_or (put_chunk at xs v) n 0) place
      ∙ (get_or-put_chunk_at at xs v (k - at) 0 (omega arith) (omega arith) ∙ (here (k - at) (omega arith) ∙ ap f (sym place)))
]

-- one vector in place of all
pub copied : (n k : ℕ) (xs ys : List ℕ) → length ys ≡ n → n ≤ length xs → k < length (put_chunk 0 ys (chunk 0 n xs)) → get_or (put_chunk 0 ys (chunk 0 n xs)) k 0 ≡ get_or xs k 0
copied n k xs ys count room within =
    let long = length-chunk 0 n xs (omega arith) in
    let place : 0 + k ≡ k = omega arith in
    ap (λ l. get_or l k 0) (put_chunk_whole ys (chunk 0 n xs) (count ∙ sym long))
    ∙ (get_or-chunk 0 n xs k 0 (omega (arith, length-put_chunk 0 ys (chunk 0 n xs))) ∙ ap (λ i. get_or xs i 0) place)
