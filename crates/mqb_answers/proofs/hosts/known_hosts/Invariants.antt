use Rattle.std.proofs.Common.{◌≡◌, ◌∷◌, take}
use Rattle.mqb_answers.proofs.hosts.known_hosts.Given as goal

abbrev pub invariant-loop-peer : goal.invariant-loop-peer
invariant-loop-peer l = l.hosts.items ≡ l.identity ∷ take l.peer-index l.peers
