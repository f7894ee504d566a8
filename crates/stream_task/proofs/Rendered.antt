-- A picture is rendered.
use Rattle.std.proofs.Common.{◌≡◌, ◌≢◌, ◌⊎◌, inl, inr, ℕ, zero, suc, ◌+◌, ◌<◌, ◌==◌, nat_lt, Bool, true, false, cond, ◌&&◌, ◌||◌, List, [], ◌∷◌, count_by, filter_map, get_or, map, set, length, slice_get, Option, Some, None, refl, ap, sym, ◌∙◌, subst, arith}
use Rattle.std.specs.List.{cons_option}
use Rattle.std.specs.Option.{is_some}
use Rattle.std.proofs.lemmas.Bool.{cases_Bool, cases_eq, eqb-true, false≢true, or_cases}
use Rattle.std.proofs.lemmas.List.{length-set}
use Rattle.std.proofs.lemmas.List.Sums.{sum_by-set}
use Rattle.std.proofs.lemmas.Option.{get_or_from_slice_get, slice_get_within}
use Rattle.access_units.specs.Pictures as pictures
use Rattle.access_units.specs.declared.acceptor.Unsettled.{Unsettled}
use Rattle.accepted_pictures.specs.Files.{Decoded}
use Rattle.cb_types.specs.References.{is_absent, is_unused}
use Rattle.cb_types.specs.declared.picture_info.PictureInfo.{PictureInfo}
use Rattle.cb_types.specs.declared.picture_info.Reference.{Reference}
use Rattle.decoder_render.specs.Renamed.{with_surface}
use Rattle.decoder_render.specs.declared.outcome.Outcome.{Outcome}
use Rattle.device_lock.specs.declared.view.View.{View}
use Rattle.driver.specs.Made.{entry_of}
use Rattle.driver_model.specs.Ends.{mark_of}
use Rattle.driver_model.specs.Jobs.{reply_of}
use Rattle.driver_model.specs.Parts.{is_among, reference_name}
use Rattle.driver_model.specs.Passes.{Adds}
use Rattle.driver_model.specs.declared.calls.Call.TheVariants as call
use Rattle.driver_model.specs.declared.items.Item.{Item}
use Rattle.stream_calls.specs.Counted.{is_done}
use Rattle.stream_calls.specs.HeldNames.{MayCall}
use Rattle.stream_calls.specs.StreamCalls.{Fed, Stream}
use Rattle.stream_course.specs.Way.{Way, with_decoded, with_failure}
use Rattle.stream_task.specs.Keeping.{HasBoth, Ready, Wait, made_at, names_held}
use Rattle.stream_task.specs.Leaving.{IsRendered, Went, with_phase}
use Rattle.stream_task.specs.Renaming.{name_else, name_or, renamed_entry, renamed_to}
use Rattle.stream_task.specs.Surfaces.{IsFree, surface_of, waiting_in}
use Rattle.stream_task.specs.declared.answers.Stepped.TheVariants as stepped
use Rattle.stream_task.specs.declared.objects.Made.{Made}
use Rattle.stream_task.specs.declared.objects.Objects.{Objects}
use Rattle.stream_task.specs.declared.phase.Phase.TheVariants as phase
use Rattle.stream_task.specs.declared.slots.Slots.{Slots}
use Rattle.stream_task.specs.declared.task.StreamTask.{StreamTask}
use Rattle.stream_task.proofs.Bounds.{calls_most, creates_most}
use Rattle.stream_task.proofs.Jobs.{job_done}
use Rattle.stream_task.proofs.Names.{place_held}
use Rattle.stream_task.proofs.Released.{set_other}

-- ---- the names that a render asks for

among_first : (o : Option ℕ) (rest : List ℕ) (name : ℕ) → is_among (cons_option o rest) name ≡ true → (o ≡ Some name) ⊎ (is_among rest name ≡ true)
among_first None rest name is = inr is
among_first (Some one) rest name is = elim (or_cases (one == name) (is_among rest name) is) [
  | inl e ↦ inl (ap Some (eqb-true one name e))
  | inr later ↦ inr later
]

no_name : (o : Option ℕ) (name : ℕ) → o ≡ None → o ≡ Some name → ⊥
no_name o name none some = (let k : (let p : Option ℕ = None in p ≡ Some name) = sym none ∙ some in cc)

same_name : (one other : ℕ) → (let o : Option ℕ = Some one in o ≡ Some other) → one ≡ other
same_name one other e = (let k : (let o : Option ℕ = Some one in o ≡ Some other) = e in cc)

named_alone : (held : List ℕ) (entry : Reference) (name : ℕ) → is_among held entry.surface ≡ true → reference_name entry ≡ Some name → is_among held name ≡ true
named_alone held entry name there e = elim (cases_Bool (is_unused entry || is_absent entry)) [
  | inl t ↦ absurd (no_name (reference_name entry) name (ap (λ b. cond b None (Some entry.surface)) t) e)
  | inr f ↦ subst (λ n. is_among held n ≡ true) (same_name entry.surface name (sym (ap (λ b. cond b None (Some entry.surface)) f) ∙ e)) there
]

entry_held : (names : ℕ → ℕ) (held : List ℕ) → ((n : ℕ) → is_among held (names n) ≡ true) → (one : Reference) (name : ℕ)
    → reference_name (renamed_entry names one) ≡ Some name → is_among held name ≡ true
entry_held names held all one name e = elim (cases_Bool (is_unused one || is_absent one)) [
  | inl t ↦
      let still : renamed_entry names one ≡ one = ap (λ b. cond b one (with_surface one (names one.surface))) t in
      absurd (no_name (reference_name one) name (ap (λ b. cond b None (Some one.surface)) t) (sym (ap reference_name still) ∙ e))
  | inr f ↦
      let new : renamed_entry names one ≡ with_surface one (names one.surface) = ap (λ b. cond b one (with_surface one (names one.surface))) f in
      named_alone held (with_surface one (names one.surface)) name (all one.surface) (sym (ap reference_name new) ∙ e)
]

pub references_held : (names : ℕ → ℕ) (held : List ℕ) → ((n : ℕ) → is_among held (names n) ≡ true) → (entries : List Reference) (name : ℕ)
    → is_among (filter_map reference_name (map (renamed_entry names) entries)) name ≡ true → is_among held name ≡ true
references_held names held all [] name is = absurd (false≢true is)
references_held names held all (one ∷ entries) name is =
    elim (among_first (reference_name (renamed_entry names one)) (filter_map reference_name (map (renamed_entry names) entries)) name is) [
      | inl here ↦ entry_held names held all one name here
      | inr later ↦ references_held names held all entries name later
    ]

else_held : (held : List ℕ) (other : ℕ) (o : Option Made) → is_among held other ≡ true → ((object : Made) → o ≡ Some object → is_among held object.name ≡ true)
    → is_among held (name_else other o) ≡ true
else_held held other None there each = there
else_held held other (Some object) there each = each object refl

pub name_held : (slots : Slots) (objects : Objects) (decoder number : ℕ) → is_among (names_held objects) decoder ≡ true
    → is_among (names_held objects) (name_or slots objects decoder number) ≡ true
name_held slots objects decoder number there =
    let found = else_held (names_held objects) decoder (made_at objects (2 + surface_of slots number)) there (place_held objects (2 + surface_of slots number)) in
    elim (cases_Bool (nat_lt number 17)) [
      | inl t ↦ subst (λ n. is_among (names_held objects) n ≡ true) (sym (ap (λ b. cond b (name_else decoder (made_at objects (2 + surface_of slots number))) decoder) t)) found
      | inr f ↦ subst (λ n. is_among (names_held objects) n ≡ true) (sym (ap (λ b. cond b (name_else decoder (made_at objects (2 + surface_of slots number))) decoder) f)) there
    ]

pub may_render : (own : List Item) (stream : ℕ) (held : List ℕ) (decoder target : ℕ) (info : PictureInfo) (bytes : List ℕ)
    → is_among held decoder ≡ true → is_among held target ≡ true
    → ((name : ℕ) → is_among (filter_map reference_name info.references) name ≡ true → is_among held name ≡ true)
    → MayCall own stream held (call.Render decoder target info bytes)
may_render own stream held decoder target info bytes a b others = record {
  one_device = λ is. absurd (false≢true is);
  some = λ is e. absurd (let k : (let o : Option ℕ = Some decoder in o ≡ None) = e in cc);
  all = λ name among. elim (or_cases (decoder == name) (is_among (target ∷ filter_map reference_name info.references) name) among) [
    | inl e ↦ subst (λ n. is_among held n ≡ true) (eqb-true decoder name e) a
    | inr rest ↦ elim (or_cases (target == name) (is_among (filter_map reference_name info.references) name) rest) [
      | inl e ↦ subst (λ n. is_among held n ≡ true) (eqb-true target name e) b
      | inr last ↦ others name last
    ]
  ];
  one_queue = λ is. absurd (false≢true is);
  window = λ d w e. absurd (let k : call.Render decoder target info bytes ≡ call.QueueCreate d w = e in cc);
  left_out = refl;
}

-- so of the task whose decoder and surface these are
pub task_may_render : (task : StreamTask) (own : List Item) (stream decoder video surface : ℕ) (picture : Unsettled) (info : PictureInfo) (bytes : List ℕ)
    → HasBoth task picture surface decoder video
    → info ≡ renamed_to (name_or task.slots task.objects decoder) picture.begun.info
    → MayCall own stream (names_held task.objects) (call.Render decoder video info bytes)
task_may_render task own stream decoder video surface picture info bytes both is =
    let held = names_held task.objects in
    let a : is_among held decoder ≡ true = place_held task.objects 0 (record { name = decoder; size = picture.size }) both.decoder_there in
    let b : is_among held video ≡ true = place_held task.objects (2 + surface) (record { name = video; size = picture.size }) both.video_there in
    may_render own stream held decoder video info bytes a b
    (subst (λ (i : PictureInfo). (name : ℕ) → is_among (filter_map reference_name i.references) name ≡ true → is_among held name ≡ true) (sym is)
    (references_held (name_or task.slots task.objects decoder) held (λ n. name_held task.slots task.objects decoder n a) picture.begun.info.references))

-- ---- the surface has the picture then

set_there : (waits : List (Option ℕ)) (surface : ℕ) (x : Option ℕ) → surface < length waits → slice_get (set waits surface x) surface ≡ Some x
set_there [] surface x inside = absurd (omega (arith, inside))
set_there (one ∷ waits) zero x inside = refl
set_there (one ∷ waits) (suc surface) x inside = set_there waits surface x (omega (arith, inside))

one_more : (waits : List (Option ℕ)) (surface number : ℕ) → slice_get waits surface ≡ Some None → count_by is_some (set waits surface (Some number)) ≡ count_by is_some waits + 1
one_more waits surface number e =
    let inside = slice_get_within waits surface None e in
    let sum : count_by is_some (set waits surface (Some number)) + cond (is_some (get_or waits surface None)) 1 0 ≡ count_by is_some waits + 1 = sum_by-set (λ y. cond (is_some y) 1 0) waits surface (Some number) None inside in
    let none : (let n : ℕ = cond (is_some (get_or waits surface None)) 1 0 in n ≡ 0) = ap (λ o. cond (is_some o) 1 0) (get_or_from_slice_get waits surface None None e) in
    omega (arith, sum, none)

not_free : (waits : List (Option ℕ)) (surface number : ℕ) → slice_get waits surface ≡ Some None → slice_get waits surface ≡ Some (Some number) → ⊥
not_free waits surface number free is = (let k : (let o : Option (Option ℕ) = Some None in o ≡ Some (Some number)) = sym free ∙ is in cc)

pub wait_decoded : (slots new : Slots) (objects : Objects) (way : Way) (one : Decoded) (surface : ℕ) (object : Made)
    → Wait slots objects way [] → IsFree slots surface → made_at objects (2 + surface) ≡ Some object
    → new.waits ≡ set slots.waits surface (Some (length way.fed.decoded))
    → Wait new objects (with_decoded way one) []
wait_decoded slots new objects way one surface object wait free there waits =
    let inside = slice_get_within slots.waits surface None free in
    let here : slice_get new.waits surface ≡ Some (Some (length way.fed.decoded)) = ap (λ l. slice_get l surface) waits ∙ set_there slots.waits surface (Some (length way.fed.decoded)) inside in
    let elsewhere : (other : ℕ) → other ≢ surface → slice_get new.waits other ≡ slice_get slots.waits other = λ other apart. ap (λ l. slice_get l other) waits ∙ set_other slots.waits surface other (Some (length way.fed.decoded)) apart in
    record {
      places = ap length waits ∙ (length-set slots.waits surface (Some (length way.fed.decoded)) ∙ wait.places);
      made = λ other number is. elim (cases_eq other surface) [
        | inl same ↦ (object, ap (λ s. made_at objects (2 + s)) same ∙ there)
        | inr apart ↦ wait.made other number (sym (elsewhere other apart) ∙ is)
      ];
      each = λ number below untold. elim (cases_eq number (length way.fed.decoded)) [
        | inl newest ↦ (surface, here ∙ ap (λ n. Some (Some n)) (sym newest))
        | inr older ↦
            let before = wait.each number (omega (arith, below, older)) untold in
            (before.0, elsewhere before.0 (λ same. not_free slots.waits surface number free (ap (λ s. slice_get slots.waits s) (sym same) ∙ before.1)) ∙ before.1)
      ];
      few = (let few = wait.few in let now : waiting_in new ≡ count_by is_some (set slots.waits surface (Some (length way.fed.decoded))) = ap (λ l. count_by is_some l) waits in let more = one_more slots.waits surface (length way.fed.decoded) free in omega (arith, few, now, more));
    }

pub wait_failed : (slots : Slots) (objects : Objects) (way : Way) (picture : pictures.Picture) → Wait slots objects way [] → Wait slots objects (with_failure way picture) []
wait_failed slots objects way picture wait = record { places = wait.places; made = wait.made; each = wait.each; few = wait.few }

-- ---- the render

pub rendered_went : (start new : StreamTask) (of : Stream) (fed : Fed) (v u w : View Item) (p1 p2 job decoder video surface : ℕ) (picture : Unsettled) (info : PictureInfo) (bytes : List ℕ)
    (o : Outcome) (whole : Bool) (one : Decoded)
    (ready : Ready (with_phase start (phase.Rendering picture surface)) of fed v)
    → HasBoth start picture surface decoder video
    → info ≡ renamed_to (name_or start.slots start.objects decoder) picture.begun.info
    → Adds v (entry_of v (call.Render decoder video info bytes) (reply_of o)) p1 u
    → Adds u (mark_of u job) p2 w
    → whole ≡ is_done (reply_of o)
    → IsRendered (with_phase start phase.Asking) new of ready.stands.way one (record { frame = picture.begun.frame; surface = surface; whole = whole })
    → Went new of fed v w stepped.Moved
rendered_went start new of fed v u w p1 p2 job decoder video surface picture info bytes o true one ready both is begins ends whole rendered =
    let task : StreamTask = with_phase start (phase.Rendering picture surface) in
    let stands = ready.stands in
    let way = stands.way in
    let about = stands.about in
    let may = task_may_render start v.own of.number decoder video surface picture info bytes both is in
    let done = job_done task of fed v u w p1 p2 job (call.Render decoder video info bytes) o ready tt begins ends may (record { not_device = refl; not_queue = refl; not_poll = refl; holds = refl }) in
    let within = stands.few.within in
    let a = creates_most (made_at start.objects 0) picture.size in
    let b = creates_most (made_at start.objects (2 + surface)) picture.size in
    let x = calls_most (made_at start.objects 0) picture.size in
    let y = calls_most (made_at start.objects (2 + surface)) picture.size in
    let one_render : (let n : ℕ = cond (true && is_done (reply_of o)) 1 0 in n ≡ 1) = ap (λ q. cond q 1 0) (sym whole) in
    let behind : StreamTask = record start { slots = new.slots; course = new.course; phase = phase.Asking } in
    let went : Went behind of fed v w stepped.Moved = record {
      ready = record {
        stands = record {
          knows = done.known.knows;
          number = stands.number;
          turn = stands.turn;
          made = done.made;
          way = with_decoded way one;
          course = rendered.course_stands;
          fed_is = stands.fed_is;
          about = record {
            not_given = refl;
            wait = wait_decoded start.slots new.slots start.objects way one surface (record { name = video; size = picture.size }) about.wait about.renders.free both.video_there rendered.slots.1;
          };
          few = record {
            renders = (let r = done.renders in let before = stands.few.renders in omega (arith, r, before, one_render));
            promises = stands.few.promises;
            within = (
              (let g = done.given in let c = within.0 in omega (arith, g, c, a, b)),
              (let n = done.counted in let k = within.1 in omega (arith, n, k, x, y)),
            );
          };
        };
        stays = done.known.stays;
      };
      steps = record { items = entry_of v (call.Render decoder video info bytes) (reply_of o) ∷ mark_of u job ∷ []; adds = done.adds; answers = done.counts };
    } in
    subst (λ (t : StreamTask). Went t of fed v w stepped.Moved) (sym rendered.rest) went
rendered_went start new of fed v u w p1 p2 job decoder video surface picture info bytes o false one ready both is begins ends whole rendered =
    let task : StreamTask = with_phase start (phase.Rendering picture surface) in
    let stands = ready.stands in
    let way = stands.way in
    let about = stands.about in
    let may = task_may_render start v.own of.number decoder video surface picture info bytes both is in
    let done = job_done task of fed v u w p1 p2 job (call.Render decoder video info bytes) o ready tt begins ends may (record { not_device = refl; not_queue = refl; not_poll = refl; holds = refl }) in
    let within = stands.few.within in
    let a = creates_most (made_at start.objects 0) picture.size in
    let b = creates_most (made_at start.objects (2 + surface)) picture.size in
    let x = calls_most (made_at start.objects 0) picture.size in
    let y = calls_most (made_at start.objects (2 + surface)) picture.size in
    let no_render : (let n : ℕ = cond (true && is_done (reply_of o)) 1 0 in n ≡ 0) = ap (λ q. cond q 1 0) (sym whole) in
    let behind : StreamTask = record start { slots = new.slots; course = new.course; phase = phase.Asking } in
    let none : (let n : ℕ = cond (is_some way.failed) 2 0 in n ≡ 0) = ap (λ f. cond (is_some f) 2 0) about.renders.going in
    let none_6 : (let n : ℕ = cond (is_some way.failed) 6 0 in n ≡ 0) = ap (λ f. cond (is_some f) 6 0) about.renders.going in
    let went : Went behind of fed v w stepped.Moved = record {
      ready = record {
        stands = record {
          knows = done.known.knows;
          number = stands.number;
          turn = stands.turn;
          made = done.made;
          way = with_failure way one.picture;
          course = rendered.course_stands;
          fed_is = stands.fed_is;
          about = record {
            not_given = refl;
            wait = subst (λ (s : Slots). Wait s start.objects (with_failure way one.picture) []) (sym rendered.slots) (wait_failed start.slots start.objects way one.picture about.wait);
          };
          few = record {
            renders = (let r = done.renders in let before = stands.few.renders in omega (arith, r, before, no_render));
            promises = stands.few.promises;
            within = (
              (let g = done.given in let c = within.0 in omega (arith, g, c, a, b, none)),
              (let n = done.counted in let k = within.1 in omega (arith, n, k, x, y, none_6)),
            );
          };
        };
        stays = done.known.stays;
      };
      steps = record { items = entry_of v (call.Render decoder video info bytes) (reply_of o) ∷ mark_of u job ∷ []; adds = done.adds; answers = done.counts };
    } in
    subst (λ (t : StreamTask). Went t of fed v w stepped.Moved) (sym rendered.rest) went
