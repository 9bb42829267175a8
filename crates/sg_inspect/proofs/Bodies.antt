-- The records of a frame's body, looked at and listed one at a time.
use Rattle.std.proofs.Common.{◌≡◌, ℕ, ◌+◌, ◌<◌, ◌≤◌, ◌&&◌, arith, true, false, Option, List, [], ◌++◌, length, take, drop, refl, sym, ap, ◌∙◌, subst, append_assoc, append-nil}
use Rattle.std.proofs.lemmas.List.Concat.{flat_map-cons}
use Rattle.sg_base.specs.Ends.{Takes, TakesFront}
use Rattle.sg_redo.specs.Places.{changed_by}
use Rattle.sg_record.specs.Records.{Record, spelled}
use Rattle.sg_record.specs.Ranges.{IsRecord}
use Rattle.sg_log.specs.Texts.{AreRecords, spelled_all}
use Rattle.sg_log.specs.Frames.{numbered_from}
use Rattle.sg_places.specs.Asked.{is_there, all_there}
use Rattle.sg_places.proofs.Rest.{AreLeft, IsFirst, first_left, none_left}
use Rattle.sg_inspect.specs.Listing.{line_of, lines_of}
use Rattle.sg_inspect.proofs.Taken.{takes_nothing, takes_more, takes_so_far, takes_cut, front_of_more}

-- THE LOOK SO FAR: these records are left, and all are of the store if those are
pub record IsLookedAt (pages bands : ℕ) (bytes : List ℕ) (rs : List Record) (at : ℕ) : Type 0 where
  pub rest : List Record
  pub left : AreLeft bytes at rest
  pub there : all_there pages bands rs ≡ all_there pages bands rest

pub look_starts : (pages bands : ℕ) (bytes : List ℕ) (rs : List Record) → AreRecords rs → spelled_all rs ≡ bytes → IsLookedAt pages bands bytes rs 0
look_starts pages bands bytes rs fields text = record { rest = rs; left = record { fields = fields; text = text }; there = refl }

module _ {pages bands : ℕ} {bytes : List ℕ} {rs : List Record} {at : ℕ} (h : IsLookedAt pages bands bytes rs at) (size : ℕ) (r : Record) (lt : at < length bytes) (fields : IsRecord r) (text : take size (drop at bytes) ≡ spelled r) where
  next : IsFirst bytes at r h.rest
  next = first_left bytes at size r h.rest h.left lt fields text

  pub look_ends_outside : is_there pages bands (changed_by r.says) ≡ false → all_there pages bands rs ≡ false
  look_ends_outside out = h.there ∙ (ap (all_there pages bands) next.is ∙ ap (λ b. b && all_there pages bands next.more) out)

  pub look_goes_on : is_there pages bands (changed_by r.says) ≡ true → size ≡ length (spelled r) → IsLookedAt pages bands bytes rs (at + size)
  look_goes_on inside long = record {
    rest = next.more;
    left = subst (λ n. AreLeft bytes n next.more) (ap (λ n. at + n) (sym long)) next.left;
    there = h.there ∙ (ap (all_there pages bands) next.is ∙ ap (λ b. b && all_there pages bands next.more) inside);
  }

pub look_ends : {pages bands : ℕ} {bytes : List ℕ} {rs : List Record} {at : ℕ} → IsLookedAt pages bands bytes rs at → length bytes ≤ at → all_there pages bands rs ≡ true
look_ends {pages = pages} {bands = bands} {bytes = bytes} {at = at} h end = h.there ∙ ap (all_there pages bands) (none_left bytes at h.rest h.left end)

-- THE LINES SO FAR: the sink took the lines of the records before those that are left
pub record AreListed (bytes : List ℕ) (lsn : ℕ) (rs : List Record) (at : ℕ) (had has : Option (List ℕ)) : Type 0 where
  pub rest : List Record
  pub left : AreLeft bytes at rest
  pub done : List ℕ
  pub split : lines_of (numbered_from lsn rs) ≡ done ++ lines_of (numbered_from (lsn + at) rest)
  pub took : Takes had done has

pub listing_starts : (bytes : List ℕ) (lsn : ℕ) (rs : List Record) (had : Option (List ℕ)) → AreRecords rs → spelled_all rs ≡ bytes → AreListed bytes lsn rs 0 had had
listing_starts bytes lsn rs had fields text = record {
  rest = rs;
  left = record { fields = fields; text = text };
  done = [];
  split = ap (λ n. lines_of (numbered_from n rs)) (zero lsn);
  took = takes_nothing had;
}
  where
    zero : (n : ℕ) → n ≡ n + 0
    zero n = omega arith

module _ {bytes : List ℕ} {lsn : ℕ} {rs : List Record} {at : ℕ} {had has : Option (List ℕ)} (h : AreListed bytes lsn rs at had has) (size : ℕ) (r : Record) (lt : at < length bytes) (fields : IsRecord r) (text : take size (drop at bytes) ≡ spelled r) (long : size ≡ length (spelled r)) where
  first : IsFirst bytes at r h.rest
  first = first_left bytes at size r h.rest h.left lt fields text

  -- the line of the first record that is left, and those behind it
  one_more : lines_of (numbered_from lsn rs) ≡ (h.done ++ line_of (record { lsn = lsn + at; is = r })) ++ lines_of (numbered_from (lsn + (at + size)) first.more)
  one_more =
      let there : lsn + at + length (spelled r) ≡ lsn + (at + size) = omega (arith, long) in
      let more : List ℕ = lines_of (numbered_from (lsn + (at + size)) first.more) in
      h.split
      ∙ ap (λ (l : List Record). h.done ++ lines_of (numbered_from (lsn + at) l)) first.is
      ∙ ap (λ xs. h.done ++ xs) (flat_map-cons line_of (record { lsn = lsn + at; is = r }) (numbered_from (lsn + at + length (spelled r)) first.more))
      ∙ ap (λ n. h.done ++ (line_of (record { lsn = lsn + at; is = r }) ++ lines_of (numbered_from n first.more))) there
      ∙ sym (append_assoc h.done (line_of (record { lsn = lsn + at; is = r })) more)

  pub listing_goes_on : (now : Option (List ℕ)) → Takes has (line_of (record { lsn = lsn + at; is = r })) now → AreListed bytes lsn rs (at + size) had now
  listing_goes_on now taken = record {
    rest = first.more;
    left = subst (λ n. AreLeft bytes n first.more) (ap (λ n. at + n) (sym long)) first.left;
    done = h.done ++ line_of (record { lsn = lsn + at; is = r });
    split = one_more;
    took = takes_more had has now h.done (line_of (record { lsn = lsn + at; is = r })) h.took taken;
  }

  pub listing_cut : (now : Option (List ℕ)) → TakesFront has (line_of (record { lsn = lsn + at; is = r })) now → TakesFront had (lines_of (numbered_from lsn rs)) now
  listing_cut now cut =
      subst (λ (xs : List ℕ). TakesFront had xs now) (sym one_more)
      (front_of_more had now (h.done ++ line_of (record { lsn = lsn + at; is = r })) (lines_of (numbered_from (lsn + (at + size)) first.more))
      (takes_cut had has now h.done (line_of (record { lsn = lsn + at; is = r })) h.took cut))

pub listing_ends : {bytes : List ℕ} {lsn : ℕ} {rs : List Record} {at : ℕ} {had has : Option (List ℕ)} → AreListed bytes lsn rs at had has → length bytes ≤ at → Takes had (lines_of (numbered_from lsn rs)) has
listing_ends {bytes = bytes} {lsn = lsn} {rs = rs} {at = at} {had = had} {has = has} h end =
    let none = none_left bytes at h.rest h.left end in
    let all : lines_of (numbered_from lsn rs) ≡ h.done = h.split ∙ (ap (λ (l : List Record). h.done ++ lines_of (numbered_from (lsn + at) l)) none ∙ append-nil h.done) in
    subst (λ (xs : List ℕ). Takes had xs has) (sym all) h.took

-- so far the sink took a front of all
pub listed_front : {bytes : List ℕ} {lsn : ℕ} {rs : List Record} {at : ℕ} {had has : Option (List ℕ)} → AreListed bytes lsn rs at had has → TakesFront had (lines_of (numbered_from lsn rs)) has
listed_front {lsn = lsn} {at = at} {had = had} {has = has} h = subst (λ (xs : List ℕ). TakesFront had xs has) (sym h.split) (takes_so_far had has h.done (lines_of (numbered_from (lsn + at) h.rest)) h.took)
