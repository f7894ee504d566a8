-- What the player asks of an acceptor between two pictures.
use Rattle.std.specs.Prelude.{◌≡◌, None}
use Rattle.access_units.specs.Acceptors.{MayAsk, Past}
use Rattle.access_units.specs.Standing.{StandsFor}
use Rattle.access_units.specs.declared.acceptor.Acceptor.{Acceptor}

-- It stands for what it was fed and has given, and may be asked for the next picture.
abbrev pub IsReady : Acceptor → Type 0
IsReady acceptor = (past : Past) × StandsFor acceptor past × MayAsk past

-- It has given a picture that is still to be settled.
abbrev pub HasGiven : Acceptor → Type 0
HasGiven acceptor = (past : Past) × StandsFor acceptor past × (past.outcome ≡ None)
