use Rattle.std.proofs.Common.{ap, refl, sym}
use Rattle.mqb_commands.proofs.Answering.{calls_cause, look_cause}
use Rattle.mqb_commands.proofs.Checkpointed.{checkpoints_cause, kept_as}
use Rattle.mqb_connections.proofs.Reaches.{reached_from}
use Rattle.mqb_shell.proofs.Commanding.{answer_plain, goes_up, link_ends, look_ends, served_disk, served_ends, served_write, told_cause, told_ends, told_goes}
use Rattle.mqb_shell.proofs.doing.do_command.Goals as goal

-- A call.

pub write-requires : goal.write-requires
write-requires g c = answer_plain c.answer_call.result.end c.answer_call.ensures.ends

pub returns-in-Call-clause-does : goal.returns-in-Call-clause-does
returns-in-Call-clause-does g c =
    rw c.in-Call.is (record {
      now = c.now-now.result;
      moment = c.now-now.ensures.moment;
      said = record {
        text = c.answer_call.result.text.items;
        end = c.answer_call.result.end;
        means = c.answer_call.ensures.calls;
        told = c.write.ensures.told;
        some = c.write.ensures.some;
      };
      once = c.now-now.ensures.asked;
      net = record { finished = refl; faults = refl; lost = refl; idle = refl };
    })

pub returns-in-Call-clause-up : goal.returns-in-Call-clause-up
returns-in-Call-clause-up g c goes = c.answer_call.ensures.up (told_goes c.write.ensures.told goes)

pub returns-in-Call-clause-calm : goal.returns-in-Call-clause-calm
returns-in-Call-clause-calm g c goes = c.answer_call.ensures.calm (told_goes c.write.ensures.told goes)

pub returns-in-Call-clause-disk_faults : goal.returns-in-Call-clause-disk_faults
returns-in-Call-clause-disk_faults g c = told_cause c.write.ensures.told _ _ (calls_cause c.answer_call.ensures.calls)

pub returns-in-Call-clause-ends : goal.returns-in-Call-clause-ends
returns-in-Call-clause-ends g c = told_ends c.write.ensures.told c.answer_call.ensures.ends

-- A checkpoint. What a refused one leaves of the disk is told of a store alone.

pub write-requires-in-Checkpoint : goal.write-requires-in-Checkpoint
write-requires-in-Checkpoint g c = answer_plain c.answer_checkpoint.result.end c.answer_checkpoint.ensures.ends

pub returns-in-Checkpoint-clause-does : goal.returns-in-Checkpoint-clause-does
returns-in-Checkpoint-clause-does g c =
    rw c.in-Checkpoint.is (record {
      said = record {
        text = c.answer_checkpoint.result.text.items;
        end = c.answer_checkpoint.result.end;
        means = kept_as (λ kept. tt) c.answer_checkpoint.ensures.checkpoints;
        told = c.write-in-Checkpoint.ensures.told;
        some = c.write-in-Checkpoint.ensures.some;
      };
      never = refl;
      net = record { finished = refl; faults = refl; lost = refl; idle = refl };
    })

pub returns-in-Checkpoint-clause-up : goal.returns-in-Checkpoint-clause-up
returns-in-Checkpoint-clause-up g c goes = c.answer_checkpoint.ensures.up (told_goes c.write-in-Checkpoint.ensures.told goes)

pub returns-in-Checkpoint-clause-calm : goal.returns-in-Checkpoint-clause-calm
returns-in-Checkpoint-clause-calm g c goes = c.answer_checkpoint.ensures.calm (told_goes c.write-in-Checkpoint.ensures.told goes)

pub returns-in-Checkpoint-clause-disk_faults : goal.returns-in-Checkpoint-clause-disk_faults
returns-in-Checkpoint-clause-disk_faults g c = told_cause c.write-in-Checkpoint.ensures.told _ _ (checkpoints_cause c.answer_checkpoint.ensures.checkpoints)

pub returns-in-Checkpoint-clause-ends : goal.returns-in-Checkpoint-clause-ends
returns-in-Checkpoint-clause-ends g c = told_ends c.write-in-Checkpoint.ensures.told c.answer_checkpoint.ensures.ends

-- A listing.

pub write-requires-in-List : goal.write-requires-in-List
write-requires-in-List g c = answer_plain c.answer_list.result.end (look_ends c.answer_list.result.end c.answer_list.ensures.ends)

pub returns-in-List-clause-does : goal.returns-in-List-clause-does
returns-in-List-clause-does g c =
    rw c.in-List.is (
      record {
        text = c.answer_list.result.text.items;
        end = c.answer_list.result.end;
        means = c.answer_list.ensures.lists;
        told = c.write-in-List.ensures.told;
        some = c.write-in-List.ensures.some;
      },
      refl,
    )

pub returns-in-List-clause-disk_faults : goal.returns-in-List-clause-disk_faults
returns-in-List-clause-disk_faults g c = told_cause c.write-in-List.ensures.told _ _ (look_cause _ _ c.answer_list.result.end c.answer_list.ensures.ends)

pub returns-in-List-clause-ends : goal.returns-in-List-clause-ends
returns-in-List-clause-ends g c = told_ends c.write-in-List.ensures.told (look_ends c.answer_list.result.end c.answer_list.ensures.ends)

-- A look.

pub write-requires-in-Peek : goal.write-requires-in-Peek
write-requires-in-Peek g c = answer_plain c.answer_peek.result.end (look_ends c.answer_peek.result.end c.answer_peek.ensures.ends)

pub returns-in-Peek-clause-does : goal.returns-in-Peek-clause-does
returns-in-Peek-clause-does g c =
    rw c.in-Peek.is (record {
      now = c.now-now-in-Peek.result;
      moment = c.now-now-in-Peek.ensures.moment;
      said = record {
        text = c.answer_peek.result.text.items;
        end = c.answer_peek.result.end;
        means = c.answer_peek.ensures.peeks;
        told = c.write-in-Peek.ensures.told;
        some = c.write-in-Peek.ensures.some;
      };
      once = c.now-now-in-Peek.ensures.asked;
      same = refl;
    })

pub returns-in-Peek-clause-disk_faults : goal.returns-in-Peek-clause-disk_faults
returns-in-Peek-clause-disk_faults g c = told_cause c.write-in-Peek.ensures.told _ _ (look_cause _ _ c.answer_peek.result.end c.answer_peek.ensures.ends)

pub returns-in-Peek-clause-ends : goal.returns-in-Peek-clause-ends
returns-in-Peek-clause-ends g c = told_ends c.write-in-Peek.ensures.told (look_ends c.answer_peek.result.end c.answer_peek.ensures.ends)

-- Connections that peers make.

pub returns-in-Serve-clause-does : goal.returns-in-Serve-clause-does
returns-in-Serve-clause-does g c =
    let served = c.serve_all.ensures in
    rw (c.in-Serve.is, c.status_of.ensures) (record { serves = served.served; each = served.asked }, served.idle)

pub returns-in-Serve-clause-up : goal.returns-in-Serve-clause-up
returns-in-Serve-clause-up g c goes = c.serve_all.ensures.up (rw (sym c.status_of.ensures) (goes_up c.status_of.result goes))

pub returns-in-Serve-clause-calm : goal.returns-in-Serve-clause-calm
returns-in-Serve-clause-calm g c = rw c.status_of.ensures c.serve_all.ensures.calm

pub returns-in-Serve-clause-quiet : goal.returns-in-Serve-clause-quiet
returns-in-Serve-clause-quiet g c = rw c.status_of.ensures c.serve_all.ensures.quiet

pub returns-in-Serve-clause-write_faults : goal.returns-in-Serve-clause-write_faults
returns-in-Serve-clause-write_faults g c = rw c.status_of.ensures (served_write _ _ c.serve_all.result c.serve_all.ensures.write_faults)

pub returns-in-Serve-clause-disk_faults : goal.returns-in-Serve-clause-disk_faults
returns-in-Serve-clause-disk_faults g c = rw c.status_of.ensures (served_disk _ _ c.serve_all.result c.serve_all.ensures.disk_faults)

pub returns-in-Serve-clause-ends : goal.returns-in-Serve-clause-ends
returns-in-Serve-clause-ends g c = rw c.status_of.ensures (served_ends c.serve_all.result c.serve_all.ensures.ends)

-- The same until none comes.

pub returns-in-Attend-clause-does : goal.returns-in-Attend-clause-does
returns-in-Attend-clause-does g c =
    let served = c.attend_all.ensures in
    rw (c.in-Attend.is, c.status_of-in-Attend.ensures) (record { serves = served.served; each = served.asked }, served.idle)

pub returns-in-Attend-clause-up : goal.returns-in-Attend-clause-up
returns-in-Attend-clause-up g c goes = c.attend_all.ensures.up (rw (sym c.status_of-in-Attend.ensures) (goes_up c.status_of-in-Attend.result goes))

pub returns-in-Attend-clause-calm : goal.returns-in-Attend-clause-calm
returns-in-Attend-clause-calm g c = rw c.status_of-in-Attend.ensures c.attend_all.ensures.calm

pub returns-in-Attend-clause-quiet : goal.returns-in-Attend-clause-quiet
returns-in-Attend-clause-quiet g c = rw c.status_of-in-Attend.ensures c.attend_all.ensures.quiet

pub returns-in-Attend-clause-write_faults : goal.returns-in-Attend-clause-write_faults
returns-in-Attend-clause-write_faults g c = rw c.status_of-in-Attend.ensures (served_write _ _ c.attend_all.result c.attend_all.ensures.write_faults)

pub returns-in-Attend-clause-disk_faults : goal.returns-in-Attend-clause-disk_faults
returns-in-Attend-clause-disk_faults g c = rw c.status_of-in-Attend.ensures (served_disk _ _ c.attend_all.result c.attend_all.ensures.disk_faults)

pub returns-in-Attend-clause-ends : goal.returns-in-Attend-clause-ends
returns-in-Attend-clause-ends g c = rw c.status_of-in-Attend.ensures (served_ends c.attend_all.result c.attend_all.ensures.ends)

-- A connection to a peer.

pub returns-in-Push-clause-does : goal.returns-in-Push-clause-does
returns-in-Push-clause-does g c =
    rw c.in-Push.is (record {
      reaches = reached_from _ _ _ _ _ _ _ _ _ _ _ (λ kept. ap (λ k. (g.D.Disk.view k).faults) kept) refl c.reach_host.ensures.reaches;
      each = c.reach_host.ensures.asked;
    })

pub returns-in-Push-clause-ends : goal.returns-in-Push-clause-ends
returns-in-Push-clause-ends g c = link_ends c.reach_host.result c.reach_host.ensures.ends

pub returns-in-Fetch-clause-ends : goal.returns-in-Fetch-clause-ends
returns-in-Fetch-clause-ends g c = link_ends c.reach_host-end.result c.reach_host-end.ensures.ends

pub returns-in-Fetch-clause-does : goal.returns-in-Fetch-clause-does
returns-in-Fetch-clause-does g c =
    let silent = c.end_by_silence.ensures in
    let heard = c.end_by_silence-in-Fetch.ensures in
    rw (c.in-Fetch.is, heard.finished, heard.faults, heard.lost, heard.idle) (record {
      reaches = reached_from _ _ _ _ _ _ _ _ _ _ _ (λ kept. ap (λ k. (g.D.Disk.view k).faults) kept) refl
          (rw (silent.finished, silent.faults, silent.lost, silent.idle) at c.reach_host-end.ensures.reaches);
      each = rw silent.finished at c.reach_host-end.ensures.asked;
    })
