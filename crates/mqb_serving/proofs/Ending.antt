-- How serving ends, by how conversing does.
use Rattle.std.proofs.Common.{◌≡◌, List, [], ◌++◌, Option, None, Some, Result, Ok, Err, ℕ, refl, sym, ap, subst, inl, inr, ◌∙◌}
use Rattle.std.specs.Option.{option_map}
use Rattle.mqb_packet.specs.declared.packet.Packet.{Packet}
use Rattle.mqb_model.specs.calls.Link.{link, unlink}
use Rattle.mqb_serving.specs.declared.purpose.Purpose.{Purpose}
use Rattle.mqb_serving.specs.Conversations.{Conversation, End, StoredManager, bytes_of, closed, linked, no_bytes, opened, read_on, role_of, served, stored_after}
use Rattle.mqb_serving.specs.Laws.{Begins}
use Rattle.mqb_serving.specs.declared.faults.ConnFault.{ConnFault}
use Rattle.mqb_serving.specs.declared.faults.ConnFault.TheVariants as fault
use Rattle.mqb_serving.specs.declared.limits.TheConstants.{MAX_PUMPS, WINDOW}
use Rattle.mqb_serving.proofs.Reading.{ends_last}
use Rattle.mqb_serving.specs.Serving.{Answer, EndsAs, IsCutShort, IsMoment, IsNext, IsServed, Serves, ServesAll, ServesWhole, Starts, answer_of}
use Rattle.mqb_serving.specs.Steps.{Converses, Finishes, IsPast, Stands, StartsAt, Stops}
use Rattle.mqb_model.specs.records.Record.{Record}
use Rattle.mqb_serving.proofs.Moments.{pumped_now, read_now}
use Rattle.mqb_serving.proofs.Points.{read_then}

-- The manager was linked.
pub linked_stands : (m n : StoredManager) (asks : Purpose) (now : ℕ) → n ≡ stored_after m (link m.manager (role_of asks) WINDOW) → Stands (linked m asks now) asks now n no_bytes
linked_stands m n asks now is = record { purpose = refl; now = refl; manager = sym is; framing = refl; end = refl }

module _ (m : StoredManager) (asks : Purpose) (now : ℕ) where
  abbrev start : Conversation
  start = linked m asks now

  -- It came to its end.

  served_so : (d : Conversation) (x y h : Option (List ℕ)) (n k : StoredManager) (end : End) (f : Finishes start d x y h n end) → k ≡ stored_after n (unlink n.manager)
      → IsServed (closed d) (answer_of end) (bytes_of f.gives.packets) k
  served_so d x y h n k end f left = record {
    wrote = ap bytes_of f.gives.given;
    manager = ap (λ (j : StoredManager). stored_after j (unlink j.manager)) f.manager ∙ sym left;
    end = ap answer_of f.end;
  }

  ends_by : (end : End) (read written : List ℕ) (k : StoredManager) → IsServed (served m asks now read) (answer_of end) written k → EndsAs (answer_of end) m asks now read written k
  ends_by (Ok done) read written k s = s
  ends_by (Err why) read written k s = s

  -- or was stopped

  moment_at : (read : List ℕ) (x y : Option (List ℕ)) (n : StoredManager) (why : ConnFault) (s : Stops (StartsAt start read) start x y n why) → IsMoment m asks now read s.written s.at.stored
  moment_at read x y n why s = at s.past
    where
      at : IsPast (StartsAt start read) start s.at → IsMoment m asks now read s.written s.at.stored
      at (inl same) = record {
        from = start;
        pumps = 0;
        starts = (m, None, inl (refl, refl));
        manager = same.manager;
        begins = subst (λ (t : List Packet). Begins s.written (bytes_of t)) same.given s.begins;
      }
      at (inr b) = record {
        from = b.from;
        pumps = b.pumps;
        starts = b.start;
        manager = b.manager;
        begins = subst (λ (t : List Packet). Begins s.written (bytes_of t)) b.given s.begins;
      }

  -- at the moment of its calls
  moment_now : (read : List ℕ) (x y : Option (List ℕ)) (n : StoredManager) (why : ConnFault) (s : Stops (StartsAt start read) start x y n why) → s.at.now ≡ now
  moment_now read x y n why s = at s.past
    where
      at_start : (by : StoredManager) (entry : Option Record) (from : Conversation) → StartsAt start read by entry from → from.now ≡ now
      at_start by entry from (inl same) = ap (λ (t : Conversation). t.now) same.1
      at_start by entry from (inr h) = ap (λ (t : Conversation). t.now) h.heard ∙ read_now (opened m asks now) h.front ∙ pumped_now MAX_PUMPS start

      at : IsPast (StartsAt start read) start s.at → s.at.now ≡ now
      at (inl same) = same.now
      at (inr b) = b.now ∙ pumped_now b.pumps b.from ∙ at_start b.start.0 b.start.1 b.from b.start.2

  cut_short : (read : List ℕ) (x y : Option (List ℕ)) (n k : StoredManager) (why : ConnFault) (s : Stops (StartsAt start read) start x y n why) → n ≡ s.at.stored → k ≡ stored_after n (unlink n.manager)
      → IsCutShort m asks now read s.written k
  cut_short read x y n k why s kept left = record {
    at = s.at.stored;
    moment = moment_at read x y n why s;
    left = left ∙ ap (λ (j : StoredManager). stored_after j (unlink j.manager)) kept;
  }

  stops_as : (read : List ℕ) (x y : Option (List ℕ)) (n k : StoredManager) (why : ConnFault) (s : Stops (StartsAt start read) start x y n why)
      → (why ≡ fault.DiskFault → k ≡ n) → ((why ≡ fault.DiskFault → ⊥) → k ≡ stored_after n (unlink n.manager)) → EndsAs (Err why) m asks now read s.written k
  stops_as read x y n k (fault.Peer why) s down left = absurd (let wrong : ⊥ = s.left in wrong)
  stops_as read x y n k fault.DiskFault s down left = record {
    at = s.at.stored;
    moment = moment_at read x y n fault.DiskFault s;
    doubt = s.left.0;
    next = subst (λ (t : ℕ). IsNext (Starts m asks now read) s.at.stored t s.left.0) (moment_now read x y n fault.DiskFault s) s.left.1;
    left = down refl ∙ s.left.2;
  }
  stops_as read x y n k why s down left = cut_short read x y n k why s s.left (left (λ same. let wrong : ⊥ = cc in wrong))

  -- Either way it serves.

  pub serves_end : (h i x y : Option (List ℕ)) (n k : StoredManager) (end : End) → Converses start h i x y n (Ok end) → k ≡ stored_after n (unlink n.manager) → Serves asks now m k h i x y (answer_of end)
  serves_end h i x y n k end c left = record {
    read = c.read;
    written = bytes_of c.ends.gives.packets;
    gave = c.gave;
    took = c.ends.gives.took;
    ends = ends_by end c.read (bytes_of c.ends.gives.packets) k (served_so (read_on (opened m asks now) c.read) x y i n k end c.ends left);
  }

  pub serves_stop : (h i x y : Option (List ℕ)) (n k : StoredManager) (why : ConnFault) → Converses start h i x y n (Err why)
      → (why ≡ fault.DiskFault → k ≡ n) → ((why ≡ fault.DiskFault → ⊥) → k ≡ stored_after n (unlink n.manager)) → Serves asks now m k h i x y (Err why)
  serves_stop h i x y n k why c down left = record {
    read = c.read;
    written = c.ends.written;
    gave = c.gave;
    took = c.ends.took;
    ends = stops_as c.read x y n k why c.ends down left;
  }

-- All that the connection held.

same_served : (c : Conversation) (read rest : List ℕ) (e : Option End) → (read_on c read).end ≡ e → ((read_on c read).end ≡ None → rest ≡ []) → read_on c (read ++ rest) ≡ read_on c read
same_served c read rest (Some end) is all = read_then c read rest ∙ ends_last (read_on c read) end rest is
same_served c read rest None is all = read_then c read rest ∙ ap (read_on (read_on c read)) (all is)

module _ (m : StoredManager) (asks : Purpose) (now : ℕ) where
  all_served : (read : List ℕ) (bytes : List ℕ) (i x y : Option (List ℕ)) (n k : StoredManager) (end : End) (f : Finishes (linked m asks now) (read_on (opened m asks now) read) x y i n end)
      → k ≡ stored_after n (unlink n.manager) → Some bytes ≡ option_map (λ rest. read ++ rest) i → ServesAll asks now m k bytes x y (answer_of end)
  all_served read bytes None x y n k end f left gave = absurd (let wrong : ⊥ = cc in wrong)
  all_served read bytes (Some rest) x y n k end f left gave =
      let d = read_on (opened m asks now) read in
      let same : read_on (opened m asks now) bytes ≡ d = ap (read_on (opened m asks now)) (some_is bytes (read ++ rest) gave)
      ∙ same_served (opened m asks now) read rest d.end refl f.all in
      record {
        written = bytes_of f.gives.packets;
        took = f.gives.took;
        served = subst (λ (t : Conversation). IsServed (closed t) (answer_of end) (bytes_of f.gives.packets) k) (sym same) (served_so m asks now d x y (Some rest) n k end f left);
      }
    where
      some_is : (a b : List ℕ) → Some a ≡ Some b → a ≡ b
      some_is a b e = cc

  whole_by : (h x y : Option (List ℕ)) (k : StoredManager) (end : End) → ((bytes : List ℕ) → h ≡ Some bytes → ServesAll asks now m k bytes x y (answer_of end))
      → ServesWhole (answer_of end) asks now m k h x y
  whole_by None x y k (Ok done) all = tt
  whole_by None x y k (Err why) all = tt
  whole_by (Some bytes) x y k (Ok done) all = all bytes refl
  whole_by (Some bytes) x y k (Err why) all = all bytes refl

  pub serves_whole : (h i x y : Option (List ℕ)) (n k : StoredManager) (end : End) → Converses (linked m asks now) h i x y n (Ok end) → k ≡ stored_after n (unlink n.manager)
      → ServesWhole (answer_of end) asks now m k h x y
  serves_whole h i x y n k end c left = whole_by h x y k end
      (λ bytes is. all_served c.read bytes i x y n k end c.ends left (sym is ∙ c.gave))

  -- a fault says nothing of it
  pub serves_part : (h i x y : Option (List ℕ)) (n k : StoredManager) (why : ConnFault) → Converses (linked m asks now) h i x y n (Err why) → ServesWhole (Err why) asks now m k h x y
  serves_part h i x y n k (fault.Peer why) c = absurd (let wrong : ⊥ = c.ends.left in wrong)
  serves_part h i x y n k why c = tt

-- A manager behind a fault of its disk is not linked, and one that was unlinked neither.

pub down_unlinked : (m n : StoredManager) (asks : Purpose) (now : ℕ) (h i x y : Option (List ℕ)) → Converses (linked m asks now) h i x y n (Err fault.DiskFault) → n.manager.rest.session ≡ None
down_unlinked m n asks now h i x y c = ap (λ (k : StoredManager). k.manager.rest.session) c.ends.left.2
