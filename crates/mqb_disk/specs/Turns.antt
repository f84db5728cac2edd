use Rattle.std.specs.Prelude.{ℕ, ◌-◌, nat_le, Bool, true, false, Option, Some, None, if◌then◌else◌}
use Rattle.mqb_outside.specs.declared.power.Mode.{Mode}
use Rattle.mqb_outside.specs.declared.power.Mode.TheVariants.{Stop, Fail}
use Rattle.mqb_disk.specs.declared.switch.Turn.{Turn}
use Rattle.mqb_disk.specs.declared.switch.Turn.TheVariants.{Works, Fails, Stops}

-- how a power switch stands
pub record Power : Type 0 where
  -- the calls left until the armed one, and its mode
  pub armed : Option (ℕ × Mode)
  pub stopped : Bool
  -- the first call after the next restart is to fail
  pub restart_is_armed : Bool
  -- the next call is to fail
  pub fails_next : Bool

-- with power, and nothing is armed
abbrev pub switched_on : Power
switched_on = record { armed = None; stopped = false; restart_is_armed = false; fails_next = false }

-- the mode of the next call, where that is the armed one
abbrev pub due_mode : Option (ℕ × Mode) → Option Mode
due_mode None = None
due_mode (Some armed) = if nat_le armed.0 1 then Some armed.1 else None

-- one call less until the armed one
abbrev pub counted_down : Option (ℕ × Mode) → Option (ℕ × Mode)
counted_down None = None
counted_down (Some armed) = if nat_le armed.0 1 then None else Some (armed.0 - 1, armed.1)

abbrev pub turn_by : Option Mode → Bool → Turn
turn_by (Some Stop) fails = Stops
turn_by (Some Fail) fails = Fails
turn_by None fails = if fails then Fails else Works

-- What comes of the next device call: it works, it fails without effect, or it takes place unsynced
-- and the power is cut off. Where one is armed to stop and is to fail too, it stops.
abbrev pub turn_of : Power → Turn
turn_of p = if p.stopped then Fails else turn_by (due_mode p.armed) p.fails_next

abbrev pub cuts_off : Option Mode → Bool
cuts_off (Some Stop) = true
cuts_off (Some Fail) = false
cuts_off None = false

-- how the switch stands after it; without power it stays as it is
abbrev pub after_turn : Power → Power
after_turn p = if p.stopped then p else record {
  armed = counted_down p.armed;
  stopped = cuts_off (due_mode p.armed);
  restart_is_armed = p.restart_is_armed;
  fails_next = false;
}

-- after a restart: nothing is armed
abbrev pub after_restart : Power → Power
after_restart p = record {
  armed = None;
  stopped = false;
  restart_is_armed = false;
  fails_next = p.restart_is_armed;
}
