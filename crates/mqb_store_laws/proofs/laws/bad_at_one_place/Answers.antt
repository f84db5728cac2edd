use Rattle.mqb_store_laws.proofs.Bad.{bad_at_one}
use Rattle.mqb_store_laws.proofs.laws.bad_at_one_place.Goals as goal

pub returns : goal.returns
returns c = bad_at_one (record {
  one = c.chains_begin_alike.ensures.one;
  guid = c.chains_begin_alike.ensures.guid;
  base = c.chains_begin_alike.ensures.base;
  whole = c.chains_begin_alike.ensures.whole;
  broken = c.chains_begin_alike.ensures.broken;
  front = c.chains_begin_alike.ensures.front;
  end = c.chains_begin_alike.ensures.end;
  stands = c.records_are_not_bad.ensures;
  same = c.stands_for_one_list.ensures.records;
  place = c.bad_at_one_place.ensures;
})
