-- A key that holds a place.
-- Assumes nothing.
use Rattle.std.specs.Prelude.{◌≡◌, true, List, ℕ, ◌≤◌, length}
use Rattle.sessions.specs.declared.Session.{Session}
use Rattle.sessions.specs.Sessions.{holds}
use Rattle.serving.specs.Serving.{standing}

-- the key holds the place, in a list that number 2 does not refuse
pub record Holds (ss : List Session) (place key : ℕ) : Type 0 where
  pub short : length ss ≤ 32
  pub held : holds (standing ss place) key ≡ true
