-- The frames of a log, walked over one at a time.
use Rattle.std.proofs.Common.{◌≡◌, ℕ, ◌+◌, ◌≤◌, arith, cond, Bool, true, false, IsTrue, Option, Some, None, List, [], ◌∷◌, ◌++◌, length, refl, sym, ap, ◌∙◌, subst, append_assoc, append-nil}
use Rattle.std.proofs.lemmas.Grind.{flat_map-append}
use Rattle.sg_base.specs.declared.area.Area.{Area}
use Rattle.sg_base.specs.Ends.{HasRisen, Takes, TakesFront}
use Rattle.sg_disk.specs.Disk.{Bytes, State, View}
use Rattle.sg_gate.specs.declared.superblock.Super.{Super}
use Rattle.sg_record.specs.Records.{Record}
use Rattle.sg_log.specs.Faults.{FrameFails}
use Rattle.sg_log.specs.Formed.{HasBody, IsFormed, IsUnformed, IsWhole}
use Rattle.sg_log.specs.Frames.{GREATEST_BODY, LOG_END, Frames, gate_after, numbered_from, numbered_in, text_of}
use Rattle.sg_log.specs.Reads.{OnlyReads}
use Rattle.sg_log.specs.Texts.{AreRecords, spelled_all}
use Rattle.sg_log.specs.declared.fault.LogFault.{LogFault}
use Rattle.sg_log.specs.declared.fault.LogFault.TheVariants as log
use Rattle.sg_log.proofs.Formed.{body_of_frame, body_one}
use Rattle.sg_log.proofs.Holding.{text-length}
use Rattle.sg_log.proofs.Runs.{reads_none, reads_more}
use Rattle.sg_log.proofs.Steps.{gate_later}
use Rattle.sg_places.specs.Asked.{all_there, first_outside}
use Rattle.sg_inspect.specs.Listing.{line_of, lines_of}
use Rattle.sg_inspect.specs.Logs.{HasFrames}
use Rattle.sg_inspect.specs.Faults.{of_log, EndFails, LinesFail, BodyFails}
use Rattle.sg_inspect.specs.declared.fault.InspectFault.{InspectFault}
use Rattle.sg_inspect.specs.declared.fault.InspectFault.TheVariants.{Disk, Sink, NotAStore, Damaged, Memory}
use Rattle.sg_inspect.proofs.Taken.{takes_nothing, takes_more, takes_so_far, takes_cut, front_of_more}

-- FRAMES ARE LEFT behind an offset: they are the last of all of a log
pub record FramesLeft (f : Bytes) (base at : ℕ) (frames rest : List (List Record)) : Type 0 where
  pub stand : Frames f at rest
  pub gate : gate_after 0 frames ≡ gate_after at rest
  pub within : base + gate_after at rest ≤ LOG_END

pub all_left : {f : Bytes} {base : ℕ} {frames : List (List Record)} → HasFrames f base frames → FramesLeft f base 0 frames frames
all_left h = record { stand = h.stand; gate = refl; within = h.within }

-- the first of them, where a body stands there
pub record IsFirstFrame (f : Bytes) (base at : ℕ) (frames rest : List (List Record)) (body : List ℕ) : Type 0 where
  pub rs : List Record
  pub more : List (List Record)
  pub is : rest ≡ rs ∷ more
  pub fields : AreRecords rs
  pub text : spelled_all rs ≡ body
  pub place : at + 1 + length (text_of (spelled_all rs)) ≡ at + (5 + length body)
  pub left : FramesLeft f base (at + (5 + length body)) frames more

pub first_frame : {f : Bytes} {base at : ℕ} {frames rest : List (List Record)} (body : List ℕ) → FramesLeft f base at frames rest → HasBody f at body → length body ≤ GREATEST_BODY → IsFirstFrame f base at frames rest body
first_frame {rest = []} body h here most = absurd (h.stand here.gate)
first_frame {f = f} {base = base} {at = at} {frames = frames} {rest = rs ∷ more} body h here most =
    let formed : IsFormed f at rs = record { gate = h.stand.0; frame = h.stand.1; text = h.stand.2 } in
    let text : spelled_all rs ≡ body = body_one f at (spelled_all rs) body (body_of_frame formed) here h.stand.1.most most in
    let place : at + 1 + length (text_of (spelled_all rs)) ≡ at + (5 + length body) = omega (arith, text-length (spelled_all rs), ap length text) in
    record {
      rs = rs;
      more = more;
      is = refl;
      fields = h.stand.1.fields;
      text = text;
      place = place;
      left = record {
        stand = subst (λ (n : ℕ). Frames f n more) place h.stand.3;
        gate = h.gate ∙ ap (λ n. gate_after n more) place;
        within = subst (λ n. base + gate_after n more ≤ LOG_END) place h.within;
      };
    }

-- none is left where the gate is closed
pub none_left : {f : Bytes} {base at : ℕ} {frames rest : List (List Record)} → FramesLeft f base at frames rest → (f at ≡ 1 → ⊥) → rest ≡ []
none_left {rest = []} h closed = refl
none_left {rest = rs ∷ more} h closed = absurd (closed h.stand.0)

-- no damage stands there
pub none_unformed : {f : Bytes} {base at : ℕ} {frames rest : List (List Record)} → FramesLeft f base at frames rest → IsUnformed f base at → ⊥
none_unformed {rest = []} h u = h.stand u.gate
none_unformed {at = at} {rest = rs ∷ more} h u =
    let later = gate_later (at + 1 + length (text_of (spelled_all rs))) more in
    u.none rs (record { gate = h.stand.0; frame = h.stand.1; text = h.stand.2 }) (omega (arith, h.within))

-- the bytes there are those of the start
pub seen_same : {told : Bool} {v w : View} → OnlyReads told v w → IsTrue told → (area : Area) → (w.now area).seen ≡ (v.now area).seen
seen_same h sure area = ap (λ (s : State). (s area).seen) (h.unchanged sure)

-- the reading of a body failed where frames are left only where the disk failed
pub body_fails : {told : Bool} {area : Area} {base at : ℕ} {frames rest : List (List Record)} {old mid : View} (new : View) → OnlyReads told old mid → IsTrue told → FramesLeft (old.now area).seen base at frames rest
    → (e : LogFault) → FrameFails told area base at mid new e → (e ≡ log.Disk) × HasRisen mid.faults new.faults
body_fails new h sure left log.Disk fails = (refl, fails)
body_fails new h sure left log.LogEnd fails = absurd fails
body_fails {area = area} {base = base} {at = at} new h sure left (log.Damaged there) fails =
    absurd (none_unformed left (subst (λ (x : Bytes). IsUnformed x base at) (seen_same h sure area) (fails.1 sure)))
body_fails new h sure left log.Memory fails = absurd fails

-- THE LOOK AT FRAMES SO FAR: those that are left are outside of the store where all are
pub record AreLookedAt (f : Bytes) (s : Super) (at : ℕ) (frames : List (List Record)) : Type 0 where
  pub rest : List (List Record)
  pub left : FramesLeft f s.base at frames rest
  pub outside : first_outside s.pages s.bands 0 frames ≡ first_outside s.pages s.bands at rest

pub record IsSurveyed (told : Bool) (s : Super) (area : Area) (at : ℕ) (old new : View) : Type 0 where
  pub within : s.base + at ≤ LOG_END
  pub reads : OnlyReads told old new
  pub quiet : new.faults ≡ old.faults
  pub left : IsTrue told → (frames : List (List Record)) → HasFrames (old.now area).seen s.base frames → AreLookedAt (old.now area).seen s at frames

pub survey_starts : (told : Bool) (s : Super) (area : Area) (v : View) → s.base ≤ LOG_END → IsSurveyed told s area 0 v v
survey_starts told s area v within = record {
  within = omega arith;
  reads = reads_none v;
  quiet = refl;
  left = λ sure frames has. record { rest = frames; left = all_left has; outside = refl };
}

-- the first frame that is left, by its body
pub front_frame : {told : Bool} {area : Area} {base at : ℕ} {old mid : View} (body : List ℕ) → OnlyReads told old mid → IsTrue told → (frames rest : List (List Record)) → FramesLeft (old.now area).seen base at frames rest → (IsTrue told → HasBody (mid.now area).seen at body) → length body ≤ GREATEST_BODY
    → IsFirstFrame (old.now area).seen base at frames rest body
front_frame {area = area} {at = at} body reads sure frames rest left here most = first_frame body left (subst (λ (x : Bytes). HasBody x at body) (seen_same reads sure area) (here sure)) most

pub survey_goes_on : {told : Bool} {s : Super} {area : Area} {at : ℕ} {old mid new : View} (size : ℕ) (body : List ℕ) → IsSurveyed told s area at old mid → OnlyReads told mid new → new.faults ≡ mid.faults → size ≡ length body → s.base + (at + (5 + size)) ≤ LOG_END
    → length body ≤ GREATEST_BODY → (IsTrue told → HasBody (mid.now area).seen at body) → ((rs : List Record) → AreRecords rs → spelled_all rs ≡ body → true ≡ all_there s.pages s.bands rs)
    → IsSurveyed told s area (at + (5 + size)) old new
survey_goes_on {s = s} {area = area} {at = at} {old = old} size body h more quiet long within most here inside = record {
  within = within;
  reads = reads_more h.reads more;
  quiet = quiet ∙ h.quiet;
  left = λ sure frames has.
      let l = h.left sure frames has in
      let first = front_frame body h.reads sure frames l.rest l.left here most in
      let place : at + 1 + length (text_of (spelled_all first.rs)) ≡ at + (5 + size) = first.place ∙ ap (λ n. at + (5 + n)) (sym long) in
      let all = sym (inside first.rs first.fields first.text) in
      record {
        rest = first.more;
        left = subst (λ n. FramesLeft (old.now area).seen s.base (at + (5 + n)) frames first.more) (sym long) first.left;
        outside = l.outside ∙ (ap (first_outside s.pages s.bands at) first.is
            ∙ (ap (λ b. cond b (first_outside s.pages s.bands (at + 1 + length (text_of (spelled_all first.rs))) first.more) (Some at)) all
            ∙ ap (λ n. first_outside s.pages s.bands n first.more) place));
      };
}

-- a frame that has a record of no page or band of the store is the first such
pub survey_finds : {told : Bool} {s : Super} {area : Area} {at : ℕ} {old mid : View} (body : List ℕ) → IsSurveyed told s area at old mid → length body ≤ GREATEST_BODY → (IsTrue told → HasBody (mid.now area).seen at body)
    → ((rs : List Record) → AreRecords rs → spelled_all rs ≡ body → false ≡ all_there s.pages s.bands rs) → IsTrue told → (frames : List (List Record)) → HasFrames (old.now area).seen s.base frames → first_outside s.pages s.bands 0 frames ≡ Some at
survey_finds {s = s} {at = at} body h most here outside sure frames has =
    let l = h.left sure frames has in
    let first = front_frame body h.reads sure frames l.rest l.left here most in
    let out = sym (outside first.rs first.fields first.text) in
    l.outside ∙ (ap (first_outside s.pages s.bands at) first.is
    ∙ ap (λ b. cond b (first_outside s.pages s.bands (at + 1 + length (text_of (spelled_all first.rs))) first.more) (Some at)) out)

-- behind the last frame
pub record IsEnd (s : Super) (at : ℕ) (frames : List (List Record)) : Type 0 where
  pub end : at ≡ gate_after 0 frames
  pub inside : first_outside s.pages s.bands 0 frames ≡ None

pub survey_ends : {told : Bool} {s : Super} {area : Area} {at : ℕ} {old mid : View} → IsSurveyed told s area at old mid → (IsTrue told → (mid.now area).seen at ≡ 1 → ⊥) → IsTrue told → (frames : List (List Record)) → HasFrames (old.now area).seen s.base frames → IsEnd s at frames
survey_ends {s = s} {area = area} {at = at} h closed sure frames has =
    let l = h.left sure frames has in
    let none = none_left l.left (subst (λ (x : Bytes). x at ≡ 1 → ⊥) (seen_same h.reads sure area) (closed sure)) in
    record {
      end = sym (l.left.gate ∙ ap (gate_after at) none);
      inside = l.outside ∙ ap (first_outside s.pages s.bands at) none;
    }

-- the reading of a body fails only where the disk does
pub survey_fails : {told : Bool} {s : Super} {area : Area} {at : ℕ} {old mid : View} (new : View) → IsSurveyed told s area at old mid → (e : LogFault) → FrameFails told area s.base at mid new e → EndFails told s area old new (of_log area e)
survey_fails new h log.Disk fails = subst (λ n. HasRisen n new.faults) h.quiet fails
survey_fails new h log.LogEnd fails = absurd fails
survey_fails {s = s} {area = area} {at = at} new h (log.Damaged there) fails = (
  refl,
  λ sure frames has. absurd (none_unformed (h.left sure frames has).left (subst (λ (x : Bytes). IsUnformed x s.base at) (seen_same h.reads sure area) (fails.1 sure))),
)
survey_fails new h log.Memory fails = absurd fails

-- THE LINES OF FRAMES SO FAR: the sink took the lines of the records of those before the ones that are left
pub record AreListed (f : Bytes) (base at : ℕ) (frames : List (List Record)) (had has : Option (List ℕ)) : Type 0 where
  pub rest : List (List Record)
  pub left : FramesLeft f base at frames rest
  pub done : List ℕ
  pub split : lines_of (numbered_in base frames) ≡ done ++ lines_of (numbered_in (base + at) rest)
  pub took : Takes had done has

pub record IsListed (told : Bool) (s : Super) (area : Area) (at : ℕ) (old new : View) (had has : Option (List ℕ)) (before now : ℕ) : Type 0 where
  pub within : s.base + at ≤ LOG_END
  pub reads : OnlyReads told old new
  pub quiet : new.faults ≡ old.faults
  pub sink_quiet : now ≡ before
  pub listed : IsTrue told → (frames : List (List Record)) → HasFrames (old.now area).seen s.base frames → AreListed (old.now area).seen s.base at frames had has

pub list_starts : (told : Bool) (s : Super) (area : Area) (v : View) (had : Option (List ℕ)) (before : ℕ) → s.base ≤ LOG_END → IsListed told s area 0 v v had had before before
list_starts told s area v had before within = record {
  within = omega arith;
  reads = reads_none v;
  quiet = refl;
  sink_quiet = refl;
  listed = λ sure frames has. record { rest = frames; left = all_left has; done = []; split = ap (λ n. lines_of (numbered_in n frames)) (zero s.base); took = takes_nothing had };
}
  where
    zero : (n : ℕ) → n ≡ n + 0
    zero n = omega arith

-- the lines of the first frame that is left, and of those behind it
frame_split : {f : Bytes} {base at : ℕ} {frames : List (List Record)} {had has : Option (List ℕ)} (size : ℕ) (body : List ℕ) (l : AreListed f base at frames had has) (first : IsFirstFrame f base at frames l.rest body) → size ≡ length body
    → lines_of (numbered_in base frames) ≡ (l.done ++ lines_of (numbered_from (base + at + 5) first.rs)) ++ lines_of (numbered_in (base + (at + (5 + size))) first.more)
frame_split {base = base} {at = at} size body l first long =
    let next : base + at + 1 + length (text_of (spelled_all first.rs)) ≡ base + (at + (5 + size)) = omega (arith, first.place, long) in
    l.split
    ∙ ap (λ (x : List (List Record)). l.done ++ lines_of (numbered_in (base + at) x)) first.is
    ∙ ap (λ xs. l.done ++ xs) (flat_map-append line_of (numbered_from (base + at + 5) first.rs) (numbered_in (base + at + 1 + length (text_of (spelled_all first.rs))) first.more))
    ∙ ap (λ n. l.done ++ (lines_of (numbered_from (base + at + 5) first.rs) ++ lines_of (numbered_in n first.more))) next
    ∙ sym (append_assoc l.done (lines_of (numbered_from (base + at + 5) first.rs)) (lines_of (numbered_in (base + (at + (5 + size))) first.more)))

pub list_goes_on : {told : Bool} {s : Super} {area : Area} {at : ℕ} {old mid new : View} {had has now : Option (List ℕ)} {before between after : ℕ} (size : ℕ) (body : List ℕ) → IsListed told s area at old mid had has before between → OnlyReads told mid new → new.faults ≡ mid.faults → after ≡ between
    → size ≡ length body → s.base + (at + (5 + size)) ≤ LOG_END → length body ≤ GREATEST_BODY → (IsTrue told → HasBody (mid.now area).seen at body)
    → ((rs : List Record) → AreRecords rs → spelled_all rs ≡ body → Takes has (lines_of (numbered_from (s.base + at + 5) rs)) now)
    → IsListed told s area (at + (5 + size)) old new had now before after
list_goes_on {s = s} {area = area} {at = at} {old = old} {had = had} {has = has} {now = now} size body h more quiet sink_quiet long within most here took = record {
  within = within;
  reads = reads_more h.reads more;
  quiet = quiet ∙ h.quiet;
  sink_quiet = sink_quiet ∙ h.sink_quiet;
  listed = λ sure frames all.
      let l = h.listed sure frames all in
      let first = front_frame body h.reads sure frames l.rest l.left here most in
      let line = lines_of (numbered_from (s.base + at + 5) first.rs) in
      record {
        rest = first.more;
        left = subst (λ n. FramesLeft (old.now area).seen s.base (at + (5 + n)) frames first.more) (sym long) first.left;
        done = l.done ++ line;
        split = frame_split size body l first long;
        took = takes_more had has now l.done line l.took (took first.rs first.fields first.text);
      };
}

-- the sink failed in the lines of a frame
pub list_cut : {told : Bool} {s : Super} {area : Area} {at : ℕ} {old mid : View} {had has : Option (List ℕ)} {before between : ℕ} (now : Option (List ℕ)) (body : List ℕ) → IsListed told s area at old mid had has before between → length body ≤ GREATEST_BODY → (IsTrue told → HasBody (mid.now area).seen at body)
    → ((rs : List Record) → AreRecords rs → spelled_all rs ≡ body → TakesFront has (lines_of (numbered_from (s.base + at + 5) rs)) now)
    → IsTrue told → (frames : List (List Record)) → HasFrames (old.now area).seen s.base frames → TakesFront had (lines_of (numbered_in s.base frames)) now
list_cut {s = s} {at = at} {had = had} {has = has} now body h most here cut sure frames all =
    let l = h.listed sure frames all in
    let first = front_frame body h.reads sure frames l.rest l.left here most in
    let line = lines_of (numbered_from (s.base + at + 5) first.rs) in
    subst (λ (xs : List ℕ). TakesFront had xs now) (sym (frame_split (length body) body l first refl))
    (front_of_more had now (l.done ++ line) (lines_of (numbered_in (s.base + (at + (5 + length body))) first.more))
    (takes_cut had has now l.done line l.took (cut first.rs first.fields first.text)))

-- the lines of all frames were written
pub list_ends : {told : Bool} {s : Super} {area : Area} {at : ℕ} {old mid : View} {had has : Option (List ℕ)} {before between : ℕ} → IsListed told s area at old mid had has before between → (IsTrue told → (mid.now area).seen at ≡ 1 → ⊥)
    → IsTrue told → (frames : List (List Record)) → HasFrames (old.now area).seen s.base frames → Takes had (lines_of (numbered_in s.base frames)) has
list_ends {s = s} {area = area} {at = at} {had = had} {has = has} h closed sure frames all =
    let l = h.listed sure frames all in
    let none = none_left l.left (subst (λ (x : Bytes). x at ≡ 1 → ⊥) (seen_same h.reads sure area) (closed sure)) in
    let whole : lines_of (numbered_in s.base frames) ≡ l.done = l.split ∙ (ap (λ (x : List (List Record)). l.done ++ lines_of (numbered_in (s.base + at) x)) none ∙ append-nil l.done) in
    subst (λ (xs : List ℕ). Takes had xs has) (sym whole) l.took

-- the disk failed where frames are left
pub list_fails : {told : Bool} {s : Super} {area : Area} {at : ℕ} {old mid : View} {had has : Option (List ℕ)} {before between : ℕ} (new : View) → IsListed told s area at old mid had has before between → (e : LogFault) → FrameFails told area s.base at mid new e
    → IsTrue told → (frames : List (List Record)) → HasFrames (old.now area).seen s.base frames → HasRisen old.faults new.faults
list_fails new h e fails sure frames all =
    let l = h.listed sure frames all in
    let rose = (body_fails new h.reads sure l.left e fails).1 in
    subst (λ n. HasRisen n new.faults) h.quiet rose

-- and it took a front of all
pub list_front : {told : Bool} {s : Super} {area : Area} {at : ℕ} {old mid : View} {had has : Option (List ℕ)} {before between : ℕ} → IsListed told s area at old mid had has before between
    → IsTrue told → (frames : List (List Record)) → HasFrames (old.now area).seen s.base frames → TakesFront had (lines_of (numbered_in s.base frames)) has
list_front {s = s} {at = at} {had = had} {has = has} h sure frames all =
    let l = h.listed sure frames all in
    subst (λ (xs : List ℕ). TakesFront had xs has) (sym l.split) (takes_so_far had has l.done (lines_of (numbered_in (s.base + at) l.rest)) l.took)

-- a body of a frame that is left is whole records
pub list_whole : {told : Bool} {s : Super} {area : Area} {at : ℕ} {old mid : View} {had has : Option (List ℕ)} {before between : ℕ} (body : List ℕ) → IsListed told s area at old mid had has before between → length body ≤ GREATEST_BODY → (IsTrue told → HasBody (mid.now area).seen at body)
    → IsTrue told → (frames : List (List Record)) → HasFrames (old.now area).seen s.base frames → IsWhole body
list_whole {s = s} body h most here sure frames all =
    let l = h.listed sure frames all in
    let first = front_frame body h.reads sure frames l.rest l.left here most in
    record { records = first.rs; fields = first.fields; spelling = first.text }

-- the lines of a frame aren't written only where the sink fails
pub list_body_fails : {told : Bool} {s : Super} {area : Area} {at : ℕ} {old mid : View} {had has : Option (List ℕ)} {before between : ℕ} (new : View) (now : ℕ) (body : List ℕ) → IsListed told s area at old mid had has before between → length body ≤ GREATEST_BODY → (IsTrue told → HasBody (mid.now area).seen at body)
    → (e : InspectFault) → BodyFails body between now e → LinesFail told s area old new before now e
list_body_fails new now body h most here Disk fails = λ sure frames all. absurd (fails.1 (list_whole body h most here sure frames all))
list_body_fails new now body h most here Sink fails = subst (λ n. HasRisen n now) h.sink_quiet fails
list_body_fails new now body h most here NotAStore fails = fails
list_body_fails new now body h most here (Damaged area at) fails = fails
list_body_fails new now body h most here Memory fails = fails
