-- Of a queue of which nothing was taken the next message is the first one.
use Rattle.std.proofs.Common.{refl, ap, sym, ◌∙◌, subst, arith}
use Rattle.std.proofs.lemmas.Option.{none-some, same_Some}
use Rattle.std.specs.List.{filter, fold, position}
use Rattle.std.specs.Prelude.{[], ◌&&◌, ◌+◌, ◌<◌, ◌∷◌, ◌≡◌, Bool, IsSomeAnd, length, List, None, Option, Some, cond, false, map, max, nat_le, option_and_then, option_map, suc, true, ℕ}
use Rattle.mqb_base.specs.declared.message.Message.{Message}
use Rattle.mqb_base.specs.declared.queues.EntryPlace.TheVariants as entry
use Rattle.mqb_queue.specs.First.{first_index, is_free, is_wanted}
use Rattle.mqb_queue.specs.Lists.{Lists}
use Rattle.mqb_queue.specs.Places.{Queue}
use Rattle.mqb_queue.proofs.Positions.{position_step}
use Rattle.mqb_trying.specs.Takes.{durable, index_from, may_take, next_index, top_from}

top_is : (free : Message → Bool) (k top : ℕ) (ms : List Message)
    → top_from (λ j m. free m) k top ms ≡ fold max top (map (λ m. m.priority) (filter free ms))
top_is free k top [] = refl
top_is free k top (m ∷ ms) = at (free m) (top_is free (k + 1) (max top m.priority) ms) (top_is free (k + 1) top ms)
  where
    at : (b : Bool) → top_from (λ j m. free m) (k + 1) (max top m.priority) ms ≡ fold max (max top m.priority) (map (λ n. n.priority) (filter free ms))
        → top_from (λ j m. free m) (k + 1) top ms ≡ fold max top (map (λ n. n.priority) (filter free ms))
        → top_from (λ j m. free m) (k + 1) (cond b (max top m.priority) top) ms
        ≡ fold max top (map (λ n. n.priority) (cond b (m ∷ filter free ms) (filter free ms)))
    at true h g = h
    at false h g = g

index_is : (free : Message → Bool) (least k : ℕ) (ms : List Message)
    → index_from (λ j m. free m) least k ms ≡ option_map (λ j. k + j) (position (λ m. free m && nat_le least m.priority) ms)
index_is free least k [] = refl
index_is free least k (m ∷ ms) =
    at (free m && nat_le least m.priority) (index_is free least (k + 1) ms)
    ∙ ap (option_map (λ j. k + j)) (sym (position_step (λ n. free n && nat_le least n.priority) m ms))
  where
    behind : (o : Option ℕ) → option_map (λ j. k + 1 + j) o ≡ option_map (λ j. k + j) (option_map suc o)
    behind None = refl
    behind (Some j) = ap Some (omega arith)

    at : (b : Bool) → index_from (λ j m. free m) least (k + 1) ms ≡ option_map (λ j. k + 1 + j) (position (λ n. free n && nat_le least n.priority) ms)
        → cond b (Some k) (index_from (λ j m. free m) least (k + 1) ms)
        ≡ option_map (λ j. k + j) (cond b (Some 0) (option_map suc (position (λ n. free n && nat_le least n.priority) ms)))
    at true h = ap Some (omega arith)
    at false h = h ∙ behind (position (λ n. free n && nat_le least n.priority) ms)

next_is : (number now : ℕ) (ms : List Message) → next_index None now ms ≡ first_index (is_wanted (entry.Queue number) now None) ms
next_is number now ms =
    ap (λ (top : ℕ). index_from (may_take None now) top 0 ms) (top_is (is_free (entry.Queue number) now) 0 0 ms)
    ∙ (index_is (is_free (entry.Queue number) now) _ 0 ms ∙ same _)
  where
    same : (o : Option ℕ) → option_map (λ j. 0 + j) o ≡ o
    same None = refl
    same (Some j) = ap Some (omega arith)

pub first_is : (number now : ℕ) (ms : List Message) (o : Option Queue) → Some ms ≡ option_map durable o
    → next_index None now ms ≡ option_and_then (λ (l : Lists). first_index (is_wanted (entry.Queue number) now None) l.durable) (option_map (λ q. q.lists) o)
first_is number now ms None is = absurd (none-some ms (sym is))
first_is number now ms (Some q) is =
    next_is number now ms ∙ ap (first_index (is_wanted (entry.Queue number) now None)) (same_Some ms (durable q) is)

pub first_within : (k : ℕ) (ms : List Message) (o : Option Queue) → Some ms ≡ option_map durable o
    → IsSomeAnd (option_map (λ q. q.lists) o) (λ (l : Lists). k < length l.durable) → k < length ms
first_within k ms None is h = absurd (none-some ms (sym is))
first_within k ms (Some q) is h = subst (λ (ns : List Message). k < length ns) (sym (same_Some ms (durable q) is)) h
