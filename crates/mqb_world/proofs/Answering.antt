-- What becomes of a run in an event.
use Rattle.std.proofs.Common.{◌≡◌, ℕ, Bool, List, Result, Ok, Err, sym, subst}
use Rattle.std.specs.Prelude.{IfOk}
use Rattle.mqb_outside.specs.Disk.{View}
use Rattle.mqb_history.specs.Laws.{HistoriesAreOrderly, RunsHaveHistories}
use Rattle.mqb_network.specs.Runs.{Move, after_run, packet_of}
use Rattle.mqb_posts.specs.declared.faults.PostFault.{PostFault}
use Rattle.mqb_runs.specs.Events.{event_of}
use Rattle.mqb_runs.specs.Hosts.{hosts}
use Rattle.mqb_script.specs.declared.events.Event.{Event}
use Rattle.mqb_transcript.specs.declared.replies.Reply.{Reply}
use Rattle.mqb_transcript.specs.declared.replies.Reply.TheVariants as reply
use Rattle.mqb_world.specs.Acting.{Happens, HappensAmong, ShortAmong}
use Rattle.mqb_world.specs.Faults.{world_fault}
use Rattle.mqb_world.specs.Ordered.{IsOrdered}
use Rattle.mqb_world.specs.Standing.{Applied, Stands}
use Rattle.mqb_world.specs.Worlds.{WorldState}
use Rattle.mqb_world.specs.declared.faults.WorldFault.{WorldFault}
use Rattle.mqb_world.proofs.Growing.{falls_short, goes_on}
use Rattle.mqb_world.proofs.Orderly.{is_ordered}

module _ (w0 w : WorldState) (is : w0 ≡ w) (strings : List (List ℕ)) where
  pub ordered_so : RunsHaveHistories → HistoriesAreOrderly → (ms : List Move) × Stands w strings ms → IsOrdered w0 strings
  ordered_so runs orderly (ms, stands) = subst (λ (w : WorldState). IsOrdered w strings) (sym is) (is_ordered runs orderly w strings ms stands)

  module _ (w_now : WorldState) (strings_now : List (List ℕ)) (asked : Event) (first first_now second second_now : View) (first_stopped second_stopped : Bool) where
    -- it happened with the packets of the run
    pub happened : (given : Reply) → HappensAmong w0 w_now asked strings strings_now first first_now second second_now first_stopped second_stopped given
        → (run : (ms : List Move) × Stands w strings ms)
        → Happens w0 w_now (packet_of (after_run hosts run.0).sent (event_of asked)) asked strings strings_now first first_now second second_now first_stopped second_stopped given
    happened given h (ms, stands) = h (after_run hosts ms).sent stands.stands.writable stands.stands.spelled

    -- each run goes on
    pub applied_so : RunsHaveHistories → HistoriesAreOrderly → (given : Reply)
        → HappensAmong w0 w_now asked strings strings_now first first_now second second_now first_stopped second_stopped given
        → (ms : List Move) → Stands w strings ms → Applied ms (event_of asked) w_now strings strings_now (Ok given)
    applied_so runs orderly given h ms stands = goes_on w strings ms (event_of asked) given w_now strings_now stands (is_ordered runs orderly w strings ms stands)
        (subst (λ (w : WorldState). HappensAmong w w_now asked strings strings_now first first_now second second_now first_stopped second_stopped given) is h
        (after_run hosts ms).sent stands.stands.writable stands.stands.spelled).step

    pub short_so : RunsHaveHistories → HistoriesAreOrderly → (f : PostFault) (g : WorldFault) → g ≡ world_fault f → ShortAmong {T = Reply} w0 asked strings strings_now (Err f)
        → (ms : List Move) → Stands w strings ms → Applied ms (event_of asked) w_now strings strings_now (Err g)
    short_so runs orderly f g so short ms stands = subst (λ (g : WorldFault). Applied ms (event_of asked) w_now strings strings_now (Err g)) (sym so)
        (falls_short w strings ms (event_of asked) reply.Done w_now strings_now stands (is_ordered runs orderly w strings ms stands) f
        (subst (λ (w : WorldState). ShortAmong {T = Reply} w asked strings strings_now (Err f)) is short (after_run hosts ms).sent stands.stands.writable stands.stands.spelled))

    module _ (r : Result Reply PostFault) (t : Result Reply WorldFault) where
      pub ok_applied : RunsHaveHistories → HistoriesAreOrderly → (given : Reply) → r ≡ Ok given → t ≡ Ok given
          → IfOk r (HappensAmong w0 w_now asked strings strings_now first first_now second second_now first_stopped second_stopped)
          → (ms : List Move) → Stands w strings ms → Applied ms (event_of asked) w_now strings strings_now t
      ok_applied runs orderly given is_r is_t h ms stands = subst (Applied ms (event_of asked) w_now strings strings_now) (sym is_t)
          (applied_so runs orderly given (subst (λ (r : Result Reply PostFault). IfOk r (HappensAmong w0 w_now asked strings strings_now first first_now second second_now first_stopped second_stopped)) is_r h) ms stands)

      pub err_applied : RunsHaveHistories → HistoriesAreOrderly → (f : PostFault) (g : WorldFault) → r ≡ Err f → g ≡ world_fault f → t ≡ Err g → ShortAmong w0 asked strings strings_now r
          → (ms : List Move) → Stands w strings ms → Applied ms (event_of asked) w_now strings strings_now t
      err_applied runs orderly f g is_r so is_t short ms stands = subst (Applied ms (event_of asked) w_now strings strings_now) (sym is_t)
          (short_so runs orderly f g so (subst (ShortAmong w0 asked strings strings_now) is_r short) ms stands)
