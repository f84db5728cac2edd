use Rattle.mqb_law_meetings.proofs.Agreeing.{always_accord}
use Rattle.mqb_law_meetings.proofs.HearingOrder.{hears_all}
use Rattle.mqb_law_meetings.proofs.AllRecovering as recovering
use Rattle.mqb_law_meetings.proofs.all_recover.Goals as goal

pub returns : goal.returns
returns c = recovering.all_recover c.histories_are_orderly.ensures c.runs_have_histories.ensures c.always_valid.ensures
    (always_accord c.always_machine_invariant.ensures c.always_stream_invariant.ensures c.commitments_lead_to_managers.ensures c.links_are_before.ensures c.rows_are_led.ensures) hears_all
