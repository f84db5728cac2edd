-- What holds of a world and its medium, since a run stands behind them.
use Rattle.std.specs.Prelude.{◌≡◌, ◌≤◌, List, is_some, length, ℕ}
use Rattle.mqb_history.specs.Orderly.{IsItself, IsLinkedRightly}
use Rattle.mqb_moves.specs.Seats.{seated}
use Rattle.mqb_posts.specs.Packets.{ArePackets}
use Rattle.mqb_posts.specs.Posting.{IsWithin}
use Rattle.mqb_runs.specs.Hosts.{alpha, beta, hosts}
use Rattle.mqb_world.specs.Worlds.{WorldState}

pub record IsOrdered (w : WorldState) (strings : List (List ℕ)) : Type 0 where
  pub packets : ArePackets strings
  pub within : IsWithin strings
  -- there is a note for each packet, and each connection that began has one at least
  pub noted : length w.traffic.notes ≡ length strings
  pub begun : w.traffic.connected ≤ length w.traffic.notes
  -- the managers are up where they are linked
  pub alpha_linked : IsLinkedRightly (is_some w.traffic.link) (seated w.alpha)
  pub beta_linked : IsLinkedRightly (is_some w.traffic.link) (seated w.beta)
  -- each is who it was, and the other's peer
  pub alpha_itself : IsItself hosts alpha (seated w.alpha).state
  pub beta_itself : IsItself hosts beta (seated w.beta).state
