use Rattle.mqb_disk.specs.Turns.{Power}
use Rattle.mqb_disk.specs.declared.switch.PowerSwitch.{PowerSwitch}

abbrev pub power_in : PowerSwitch → Power
power_in s = record {
  armed = s.armed;
  stopped = s.stopped;
  restart_is_armed = s.restart_is_armed;
  fails_next = s.fails_next;
}
