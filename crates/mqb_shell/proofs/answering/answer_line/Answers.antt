use Rattle.std.proofs.Common.{◌∙◌, ap}
use Rattle.mqb_shell.proofs.Finishing.{disk_by, if_goes, is_stop, no_write_fault, write_by}
use Rattle.mqb_shell.proofs.answering.answer_line.Goals as goal

pub returns-clause-answers : goal.returns-clause-answers
returns-clause-answers g c = record {
  end = c.do_line-end.result;
  told = g.K.Sink.taken c.do_line-end.new.out;
  does = c.do_line-end.ensures.does;
  ends = c.end_answer.ensures.ends;
}

pub returns-clause-up : goal.returns-clause-up
returns-clause-up g c = if_goes c.do_line-end.result _ _ c.end_answer.result c.end_answer.ensures.ends c.do_line-end.ensures.up

pub returns-clause-calm : goal.returns-clause-calm
returns-clause-calm g c = if_goes c.do_line-end.result _ _ c.end_answer.result c.end_answer.ensures.ends c.do_line-end.ensures.calm

pub returns-clause-quiet : goal.returns-clause-quiet
returns-clause-quiet g c other =
    c.end_answer.ensures.quiet other ∙ c.do_line-end.ensures.quiet (no_write_fault c.do_line-end.result _ _ c.end_answer.result c.end_answer.ensures.ends other)

pub returns-clause-write_faults : goal.returns-clause-write_faults
returns-clause-write_faults g c =
    write_by c.do_line-end.result _ _ (g.K.Sink.write_faults c.args.out.now) (g.K.Sink.write_faults c.do_line-end.new.out) (g.K.Sink.write_faults c.end_answer.new.out) c.end_answer.result
    c.end_answer.ensures.ends c.do_line-end.ensures.write_faults c.do_line-end.ensures.quiet c.end_answer.ensures.cause (λ failed. ap g.K.Sink.write_faults (c.end_answer.ensures.same failed))

pub returns-clause-disk_faults : goal.returns-clause-disk_faults
returns-clause-disk_faults g c = disk_by c.do_line-end.result _ _ _ _ c.end_answer.result c.end_answer.ensures.ends c.do_line-end.ensures.disk_faults

pub returns-clause-ends : goal.returns-clause-ends
returns-clause-ends g c = is_stop c.do_line-end.result _ _ c.end_answer.result c.end_answer.ensures.ends
