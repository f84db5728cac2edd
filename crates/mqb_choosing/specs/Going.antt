-- How packets are chosen one after another.
use Rattle.std.specs.List.{enumerate_from}
use Rattle.std.specs.Option.{option_map_or}
use Rattle.std.specs.Prelude.{[], ◌&&◌, ◌++◌, ◌+◌, ◌==◌, ◌||◌, ◌∷◌, ◌≡◌, ◌≤◌, Bool, List, Option}
use Rattle.std.specs.Prelude.{Some, false, filter_map, flat_map, fold, if◌then◌else◌, length, map}
use Rattle.std.specs.Prelude.{nat_le, nat_lt, not, slice_get, true, zip, ℕ}
use Rattle.mqb_base.specs.declared.heads.SessionHead.{SessionHead}
use Rattle.mqb_base.specs.declared.ids.Guid.{Guid}
use Rattle.mqb_base.specs.declared.message.Lane.{Lane}
use Rattle.mqb_orders.specs.declared.rows.InRow.{InRow}
use Rattle.mqb_session.specs.Sending.{may_send, stamped}
use Rattle.mqb_session.specs.State as one_end
use Rattle.mqb_plain.specs.Plain.{PlainLists, outgoing_in}
use Rattle.mqb_model.specs.calls.pump.Candidates.{Candidate, candidates, owed_to}
use Rattle.mqb_model.specs.calls.pump.Candidates.{unsent_from, waiting}
use Rattle.mqb_model.specs.calls.pump.Choosing.{candidate_size, chosen, session_behind, with_heads}
use Rattle.mqb_model.specs.declared.limits.TheConstants.{MAX_PACKETS, MAX_PUMP_BYTES}
use Rattle.mqb_model.specs.managers.Manager.{Rest}
use Rattle.mqb_model.specs.state.State.{State}
use Rattle.mqb_choosing.specs.declared.choice.Choice.{Choice}
use Rattle.mqb_choosing.specs.declared.choice.Origin.{Origin}
use Rattle.mqb_choosing.specs.Choices.{kind_for, origin_in, shown}

-- what was chosen so far, the session behind it, how many bytes the packets have, and
-- whether more may follow
pub record Going : Type 0 where
  pub choices : List Choice
  pub session : one_end.State
  pub bytes : ℕ
  pub more : Bool

-- The bytes are within the limit of a pump, and without a packet there are none.
pub record IsCounted (choices : List Choice) (bytes : ℕ) : Type 0 where
  pub within : bytes ≤ MAX_PUMP_BYTES
  pub first : length choices ≡ 0 → bytes ≡ 0

-- nothing was chosen yet
abbrev pub nothing_chosen : one_end.State → Going
nothing_chosen session = record { choices = []; session = session; bytes = 0; more = true }

-- a packet of so many bytes may follow
abbrev pub takes : ℕ → Going → Bool
takes size g = g.more && (may_send g.session && nat_lt (length g.choices) MAX_PACKETS
    && (length g.choices == 0 || nat_le (g.bytes + size) MAX_PUMP_BYTES))

-- it goes
abbrev pub with_choice : Origin → ℕ → Going → Going
with_choice origin size g = record g {
  choices =
      g.choices ++ record { origin = origin; head = (stamped (kind_for origin) g.session).0 } ∷ [];
  session = (stamped (kind_for origin) g.session).1;
  bytes = g.bytes + size;
}

-- it goes if it may, and else none goes any more
abbrev pub offered : Origin → ℕ → Going → Going
offered origin size g =
    if takes size g then with_choice origin size g else record g { more = false }

-- of candidates that are next, those that go
abbrev pub next_chosen : Going → List Candidate → List Candidate
next_chosen g cs = if g.more then chosen g.session (length g.choices) g.bytes cs else []

-- something could go: it went, or it might not
abbrev pub any_waits : Going → Bool
any_waits g = not g.more || not (length g.choices == 0)

-- what choosing comes to: the packets, the session behind them, their bytes, and
-- whether anything could go
pub record Chosen : Type 0 where
  pub packets : List (Option (Candidate × SessionHead))
  pub session : one_end.State
  pub bytes : ℕ
  pub any : Bool

-- what it comes to where these candidates are next
abbrev pub coming_to : State → Going → List Candidate → Chosen
coming_to s g cs = record {
  packets = map (shown s) g.choices
      ++ map (λ given. Some given) (with_heads g.session (next_chosen g cs));
  session = session_behind g.session (next_chosen g cs);
  bytes = fold (λ n c. n + candidate_size c) g.bytes (next_chosen g cs);
  any = any_waits g || not (length cs == 0);
}

-- These candidates were offered: whatever is next, choosing comes to the same.
abbrev pub Offers : State → Going → Going → List Candidate → Type 0
Offers s before after cs =
    (next : List Candidate) → coming_to s after next ≡ coming_to s before (cs ++ next)

-- the rows of a peer that owe an acknowledgement
abbrev pub owing : State → List Bool → Guid → List (ℕ × InRow)
owing s owes peer = filter_map (owed_to peer) (enumerate_from 0 (zip s.ins owes))

-- the plain messages of a lane that were not sent
abbrev pub unsent_in : Lane → PlainLists → List Candidate
unsent_in kind p = filter_map (unsent_from (origin_in kind)) (outgoing_in kind p)

-- what waits in the outgoing rows of a peer that are open
abbrev pub waiting_in : State → List ℕ → ℕ → List Candidate
waiting_in s cursors peer = flat_map (waiting s peer) (enumerate_from 0 (zip s.outs cursors))

-- what is known in a connection
abbrev pub known : one_end.State → List ℕ → List Bool → Rest
known session cursors owes = record { session = Some session; cursors = cursors; owes = owes }

-- whatever could go to the peer at an index
abbrev pub candidates_to : State → Rest → ℕ → ℕ → List Candidate
candidates_to s rest now k =
    option_map_or (λ peer. option_map_or (candidates s rest now k peer) (slice_get s.plain k) [])
    (slice_get s.peers k) []

-- what goes to it
abbrev pub chosen_to : State → one_end.State → List ℕ → List Bool → ℕ → ℕ → List Candidate
chosen_to s session cursors owes now k =
    chosen session 0 0 (candidates_to s (known session cursors owes) now k)
