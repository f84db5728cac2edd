-- What goes to a peer, as it was planned, and what is known of the connection once it went.
use Rattle.std.specs.Prelude.{◌==◌, ◌≡◌, All, Bool, List, None, Option, Some, if◌then◌else◌}
use Rattle.std.specs.Prelude.{length, ℕ}
use Rattle.mqb_entries.specs.declared.entry.Entry.{Entry}
use Rattle.mqb_entries.specs.declared.entry.Entry.TheVariants as form
use Rattle.mqb_entries.specs.declared.members.Mark.{Mark}
use Rattle.mqb_session.specs.State as one_end
use Rattle.mqb_choosing.specs.Choices.{IsThere, bytes_in, shown_in}
use Rattle.mqb_choosing.specs.Going.{Going, chosen_to, known}
use Rattle.mqb_model.specs.calls.pump.Choosing.{session_behind, with_heads}
use Rattle.mqb_model.specs.calls.pump.Pump.{settled}
use Rattle.mqb_model.specs.state.State.{State}

-- the entry of the marks that rise, where one does
abbrev pub offered_form : List Mark → Option Entry
offered_form marks = if length marks == 0 then None else Some (form.Offered marks)

-- These packets, and what is known of the connection once they went, are what the definition
-- chooses. `numbers` and `marks` are what was known of it before: the number that was sent last in
-- each outgoing row, and whether an incoming row owes an acknowledgement.
pub record IsPlanned (s : State) (session : one_end.State) (numbers : List ℕ) (marks : List Bool)
    (now k : ℕ) (g : Going) (cursors : List ℕ) (owes : List Bool) : Type 0 where
  pub there : All (IsThere s) g.choices
  pub packets : shown_in s g.choices ≡ with_heads session (chosen_to s session numbers marks now k)
  pub count : length g.choices ≡ length (chosen_to s session numbers marks now k)
  pub bytes : g.bytes ≡ bytes_in s g.choices
  pub behind : g.session ≡ session_behind session (chosen_to s session numbers marks now k)
  pub settled : known session cursors owes
      ≡ settled (known session numbers marks) (chosen_to s session numbers marks now k)
