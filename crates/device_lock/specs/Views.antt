-- What a pass knows, and how its steps change it.
use Rattle.std.specs.Prelude.{◌≡◌, ℕ, ◌+◌, ◌*◌, ◌^◌, if◌then◌else◌, List, [], ◌∷◌, ◌++◌, map, Some, None, true, false}
use Rattle.device_lock.specs.Lists.{longer, shorter}
use Rattle.device_lock.specs.declared.view.Share.{Share}
use Rattle.device_lock.specs.declared.view.View.{View}
use Rattle.device_lock.specs.declared.view.Turn.{Turn}
use Rattle.device_lock.specs.declared.view.Turn.TheVariants.{Waiting, Holding, HasLogged}

-- its turn has come, and is not over
abbrev pub IsInTurn : Turn → Type 0
IsInTurn Waiting = ⊥
IsInTurn Holding = Unit {0}
IsInTurn HasLogged = Unit {0}

-- half of a share
abbrev pub half : Share → Share
half s = record { parts = s.parts; halvings = s.halvings + 1 }

-- the sum of two shares, over a common power of two
abbrev pub both_shares : Share → Share → Share
both_shares s t = record { parts = s.parts * 2 ^ t.halvings + t.parts * 2 ^ s.halvings; halvings = s.halvings + t.halvings }

-- the share is the whole
abbrev pub IsWhole : Share → Type 0
IsWhole s = s.parts ≡ 2 ^ s.halvings

module _ {I : Type 0} where
  -- the first pass: the whole share, and nothing seen
  abbrev pub first_view : View I
  first_view = record {
    number = [];
    splits = 0;
    seen = [];
    own = [];
    joined = [];
    share = record { parts = 1; halvings = 0 };
    ticket = None;
    turn = Waiting;
    spent = false;
    met = [];
  }

  -- outside a call a pass has no ticket, and does not hold the value
  abbrev pub IsAway : View I → Type 0
  IsAway v = (v.ticket ≡ None) × (v.turn ≡ Waiting) × (v.spent ≡ false)

  -- it has drawn this ticket
  abbrev pub with_ticket : View I → ℕ → View I
  with_ticket v t = record v { ticket = Some t }

  -- its turn has come, and it has seen the whole history
  abbrev pub with_turn : View I → List I → View I
  with_turn v history = record v { seen = history; turn = Holding }

  -- it has logged this item
  abbrev pub with_item : View I → I → View I
  with_item v x = record v { seen = v.seen ++ x ∷ []; own = v.own ++ x ∷ []; turn = HasLogged }

  -- its turn is over
  abbrev pub without_turn : View I → View I
  without_turn v = record v { ticket = None; turn = Waiting }

  -- what is left of a pass that another one is split off
  abbrev pub split_left : View I → View I
  split_left v = record v { splits = v.splits + 1; share = half v.share }

  -- the pass that is split off it: a number of its own, and all that was seen
  abbrev pub split_right : View I → View I
  split_right v = record {
    number = v.number ++ v.splits ∷ [];
    splits = 0;
    seen = v.seen;
    own = [];
    joined = [];
    share = half v.share;
    ticket = None;
    turn = Waiting;
    spent = false;
    met = [];
  }

  -- v with w joined into it
  abbrev pub joined_view : View I → View I → View I
  joined_view v w = record v {
    seen = longer v.seen w.seen;
    joined = v.joined ++ record { number = w.number; own = w.own } ∷ w.joined;
    share = both_shares v.share w.share;
    met = shorter v.seen w.seen;
  }

  -- what is left of the pass that was joined in
  abbrev pub spent_view : View I
  spent_view = record {
    number = [];
    splits = 0;
    seen = [];
    own = [];
    joined = [];
    share = record { parts = 0; halvings = 0 };
    ticket = None;
    turn = Waiting;
    spent = true;
    met = [];
  }

  -- the numbers that a pass keeps: its own, and those joined into it
  abbrev pub numbers : View I → List (List ℕ)
  numbers v = if v.spent then [] else v.number ∷ map (λ a. a.number) v.joined

  -- All but what was seen, the ticket and the turn is as it was.
  abbrev pub IsSamePass : View I → View I → Type 0
  IsSamePass v w =
      (w.number ≡ v.number)
      × (w.splits ≡ v.splits)
      × (w.own ≡ v.own)
      × (w.joined ≡ v.joined)
      × (w.share ≡ v.share)
