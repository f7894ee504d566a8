-- Two ways to take the same bytes apart are one.
use Rattle.std.proofs.Common.{◌≡◌, ℕ, zero, suc, ◌+◌, List, [], ◌∷◌, ◌++◌, length, refl, ap, ap₂, sym, ◌∙◌, subst, append_assoc, length-append, arith}
use Rattle.std.proofs.lemmas.List.{append-nil}
use Rattle.std.specs.List.{AllByRecursion}
use Rattle.trace_records.specs.Ranges.{IsRecord}
use Rattle.trace_records.specs.Records.{bytes_of, bytes_of_all}
use Rattle.trace_records.specs.declared.record.Record.{Record}
use Rattle.trace_fits.specs.Files.{Breaks, IsTrace}
use Rattle.trace_fits.specs.Laws.{BytesBreakOnce, TracesDontBreak, TracesHaveOneCount}
use Rattle.trace_fits.specs.Walks.{Follows, Goes, IsAtRest, Walk, start}
use Rattle.trace_records.proofs.OwnBytes.{begins_alike, record_long}
use Rattle.trace_fits.proofs.OneWay.{one_end, one_way}

abbrev Stops : Walk → List ℕ → Type 0
Stops walk rest = (next : Record) (later : List ℕ) (new : Walk) → IsRecord next → rest ≡ bytes_of next ++ later → ¬ Follows walk next new

abbrev Each : List Record → Type 0
Each records = AllByRecursion IsRecord records

apart : (walk one other : Walk) (a b : List Record) (rest more : List ℕ) → Each a → Each b → bytes_of_all a ++ rest ≡ bytes_of_all b ++ more
    → Goes walk a one → Goes walk b other → Stops one rest → Stops other more → a ≡ b
unfolding Goes
apart walk one other [] [] rest more ra rb e ga gb sa sb = refl
apart walk one other [] (y ∷ b) rest more ra rb e ga gb sa sb =
    absurd (sa y (bytes_of_all b ++ more) gb.0 rb.0 (e ∙ append_assoc (bytes_of y) (bytes_of_all b) more) (subst (λ (w : Walk). Follows w y gb.0) (sym ga) gb.1))
apart walk one other (x ∷ a) [] rest more ra rb e ga gb sa sb =
    absurd (sb x (bytes_of_all a ++ rest) ga.0 ra.0 (sym e ∙ append_assoc (bytes_of x) (bytes_of_all a) rest) (subst (λ (w : Walk). Follows w x ga.0) (sym gb) ga.1))
apart walk one other (x ∷ a) (y ∷ b) rest more ra rb e ga gb sa sb =
    let alike = begins_alike x y (bytes_of_all a ++ rest) (bytes_of_all b ++ more) ra.0 rb.0 (sym (append_assoc (bytes_of x) (bytes_of_all a) rest) ∙ (e ∙ append_assoc (bytes_of y) (bytes_of_all b) more)) in
    let between : ga.0 ≡ gb.0 = one_way walk ga.0 gb.0 y (subst (λ (r : Record). Follows walk r ga.0) alike.0 ga.1) gb.1 in
    ap₂ (λ r rs. r ∷ rs) alike.0 (apart gb.0 one other a b rest more ra.1 rb.1 alike.1 (subst (λ (w : Walk). Goes w a one) between ga.2) gb.2 sa sb)

-- behind the last byte no record begins
ends : (walk : Walk) → Stops walk []
ends walk next later new h e follows =
    let long : 0 ≡ length (bytes_of next) + length later = ap length e ∙ length-append (bytes_of next) later in
    absurd (omega (arith, long, record_long next))

pub break_once : BytesBreakOnce
break_once bytes one other a b =
    let same = apart start a.walk b.walk a.records b.records a.rest b.rest a.each b.each (sym a.is ∙ b.is) a.goes b.goes a.stops b.stops in
    a.place ∙ (ap (λ rs. length (bytes_of_all rs)) same ∙ sym b.place)

pub dont_break : TracesDontBreak
dont_break bytes count offset t b =
    let whole : bytes_of_all t.records ++ [] ≡ bytes_of_all b.records ++ b.rest = append-nil (bytes_of_all t.records) ∙ (sym t.is ∙ b.is) in
    let same = apart start t.fits.0 b.walk t.records b.records [] b.rest t.each b.each whole t.fits.1 b.goes (ends t.fits.0) b.stops in
    let walk : t.fits.0 ≡ b.walk = one_end start t.fits.0 b.walk b.records (subst (λ (rs : List Record). Goes start rs t.fits.0) same t.fits.1) b.goes in
    let long : length (bytes_of_all b.records) ≡ length (bytes_of_all b.records) + length b.rest = ap (λ rs. length (bytes_of_all rs)) (sym same) ∙ (ap length (sym t.is ∙ b.is) ∙ length-append (bytes_of_all b.records) b.rest) in
    b.misses (empty b.rest (omega (arith, long))) (subst IsAtRest walk t.fits.2)
  where
    empty : (xs : List ℕ) → length xs ≡ 0 → xs ≡ []
    empty [] e = refl
    empty (x ∷ xs) e = absurd (omega (arith, e))

pub one_count : TracesHaveOneCount
one_count bytes one other a b =
    let whole : bytes_of_all a.records ++ [] ≡ bytes_of_all b.records ++ [] = ap (λ xs. xs ++ []) (sym a.is ∙ b.is) in
    let same = apart start a.fits.0 b.fits.0 a.records b.records [] [] a.each b.each whole a.fits.1 b.fits.1 (ends a.fits.0) (ends b.fits.0) in
    a.many ∙ (ap length same ∙ sym b.many)
