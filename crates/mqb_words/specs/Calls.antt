-- The calls of a store's manager, from the words behind the first one, of which
-- the store is the first.
use Rattle.std.specs.Prelude.{ℕ, List, [], ◌∷◌, Result, Ok, Err}
use Rattle.mqb_fields.specs.Reading.{◌>>=◌}
use Rattle.mqb_forms.specs.declared.faults.LineKind.{LineKind}
use Rattle.mqb_forms.specs.declared.faults.LineKind.TheVariants.{Value}
use Rattle.mqb_forms.specs.Values.{roll_of, place_of}
use Rattle.mqb_forms.specs.Plans.{plan_of, how_of}
use Rattle.mqb_forms.specs.Sends.{send_of, ops_of}
use Rattle.mqb_words.specs.declared.commands.Call.{Call}
use Rattle.mqb_words.specs.declared.commands.Call.TheVariants.{AddPeer, CreateQueue, Send, Commit}
use Rattle.mqb_words.specs.declared.commands.Call.TheVariants.{Take, Purge, Tick, SetRoll}
use Rattle.mqb_words.specs.Values.{identity_of}

unfoldable pub peer_from : List (List ℕ) → Result Call LineKind
peer_from (store ∷ host ∷ guid ∷ address ∷ []) = do
  peer ← identity_of host guid address
  Ok (AddPeer peer)
peer_from _ = Err Value

unfoldable pub create_from : List (List ℕ) → Result Call LineKind
create_from (store ∷ name ∷ kind ∷ quota ∷ journal ∷ guid) = do
  plan ← plan_of name kind quota journal guid
  Ok (CreateQueue plan)
create_from _ = Err Value

unfoldable pub sent_with : List ℕ → List ℕ → List ℕ → Result Call LineKind
sent_with kind priority send = do
  how ← how_of kind priority
  parts ← send_of how.1 send
  Ok (Send how.0 parts)

unfoldable pub send_from : List (List ℕ) → Result Call LineKind
send_from (store ∷ kind ∷ priority ∷ send ∷ []) = sent_with kind priority send
send_from _ = Err Value

-- the steps of a transaction, one or more
unfoldable pub commit_from : List (List ℕ) → Result Call LineKind
commit_from (store ∷ op ∷ ops) = do
  steps ← ops_of (op ∷ ops)
  Ok (Commit steps)
commit_from _ = Err Value

unfoldable pub take_from : List (List ℕ) → Result Call LineKind
take_from (store ∷ place ∷ []) = do
  from ← place_of place
  Ok (Take from)
take_from _ = Err Value

unfoldable pub purge_from : List (List ℕ) → Result Call LineKind
purge_from (store ∷ place ∷ []) = do
  from ← place_of place
  Ok (Purge from)
purge_from _ = Err Value

unfoldable pub tick_from : List (List ℕ) → Result Call LineKind
tick_from (store ∷ []) = Ok Tick
tick_from _ = Err Value

unfoldable pub roll_from : List (List ℕ) → Result Call LineKind
roll_from (store ∷ count ∷ []) = do
  most ← roll_of count
  Ok (SetRoll most)
roll_from _ = Err Value
