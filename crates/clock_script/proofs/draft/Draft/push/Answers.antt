use Rattle.std.proofs.Common.{◌+◌, subst, sym, ap, ◌∙◌, ◌≡◌, ◌∷◌, ◌++◌, [], List, true}
use Rattle.clock_script.specs.Draft.{Sums}
use Rattle.clock_script.specs.Script.{may_follow}
use Rattle.clock_script.specs.declared.script.ScriptLine.{ScriptLine}
use Rattle.clock_script.specs.declared.script.ScriptLine.TheVariants.{Tick}
use Rattle.clock_script.proofs.DraftSums.{tick_fits, tick_more}
use Rattle.clock_script.proofs.draft.Draft.push.Goals as goal

pub invariant_of-self-in-Tick : goal.invariant_of-self-in-Tick
invariant_of-self-in-Tick c =
    let inside = c.self.inside in
    let old = inside.lines.items in
    let may : may_follow c.args.streams old (Tick c.in-Tick.time) ≡ true =
    subst (λ (line : ScriptLine). may_follow c.args.streams old line ≡ true) c.in-Tick.is (subst (λ (l : List ScriptLine). may_follow c.args.streams l c.args.line ≡ true) (sym c.self.view_is) c.requires) in
    let fits = tick_fits c.args.streams old inside.ticks inside.last_tick inside.last_time c.in-Tick.time c.self.invariant may in
    let items : c.push.new.self.items ≡ old ++ Tick c.in-Tick.time ∷ [] = c.in_ok-push.ensures.items ∙ ap (λ l. old ++ l ∷ []) c.in-Tick.is in
    subst (λ (l : List ScriptLine). Sums l (inside.ticks + 1) c.in-Tick.time c.in-Tick.time) (sym items) (tick_more old inside.ticks inside.last_tick inside.last_time c.in-Tick.time fits.few fits.later fits.not_before c.self.invariant)
