-- Formed frames one after another, up to a closed gate or a damage.
use Rattle.std.proofs.Common.{◌≡◌, inl, inr, ℕ, min, ◌+◌, ◌*◌, ◌<◌, ◌≤◌, ◌&&◌, Bool, IsTrue, Result, Ok, Err, None, IfOk, OnOk, List, [], ◌∷◌, ◌++◌, length, refl, sym, ◌∙◌, ap, subst, arith, length-append}
use Rattle.sg_base.specs.declared.area.Area.{Area}
use Rattle.sg_disk.specs.Disk.{Bytes, State, View, FULL}
use Rattle.sg_record.specs.Records.{Record}
use Rattle.sg_log.specs.Faults.{FrameFails}
use Rattle.sg_log.specs.Formed.{HasBody, IsFormed, AreFormed, IsUnformed}
use Rattle.sg_log.specs.Frames.{GREATEST_BODY, LOG_END, Frames, HasRecords, Numbered, gate_after, numbered_from, numbered_in, text_of}
use Rattle.sg_log.specs.Reads.{OnlyReads}
use Rattle.sg_log.specs.Texts.{spelled_all}
use Rattle.sg_log.specs.declared.fault.LogFault.{LogFault}
use Rattle.sg_log.specs.declared.fault.LogFault.TheVariants as log
use Rattle.sg_log.proofs.Chain.{formed_closed, formed_more, formed_one}
use Rattle.sg_log.proofs.Formed.{body_of_frame, body_one, formed_by}
use Rattle.sg_log.proofs.Holding.{gate_moved, numbered_in-more, text-length}
use Rattle.sg_log.proofs.Runs.{reads_none, reads_more}
use Rattle.sg_log.proofs.Steps.{gate_more, gate_shut}
use Rattle.sg_log.proofs.Unique.{Frames-one, HasRecords-one}
use Rattle.sg_recovery.specs.Chains.{next_lsn}
use Rattle.sg_analysis.specs.Sights.{steps_of}
use Rattle.sg_analysis.specs.Unended.{stray}
use Rattle.sg_analysis.specs.Placed.{AreInFrames, ArePlaced, TellsStray}
use Rattle.sg_analysis.specs.Standing.{all_stand, all_stand_behind}
use Rattle.sg_analysis.specs.Damage.{AnalysisFails}
use Rattle.sg_analysis.specs.Faults.{of_log}
use Rattle.sg_analysis.specs.Rows.{Knows, AreTaken, RecordsFail}
use Rattle.sg_analysis.specs.declared.fault.AnalysisFault.{AnalysisFault}
use Rattle.sg_analysis.specs.declared.fault.AnalysisFault.TheVariants.{Disk, Damaged, Memory}
use Rattle.sg_analysis.specs.declared.scan.Scan.{Scan}
use Rattle.sg_analysis.specs.Walks.{IsWalked, IsFound}
use Rattle.sg_analysis.specs.Analysis.{analysis_of}
use Rattle.sg_analysis.specs.Shown.{shown, IsAnalysed}
use Rattle.sg_analysis.specs.declared.analysis.Analysis as code
use Rattle.sg_analysis.proofs.Taking.{all_stand-both, both_true, true_right}
use Rattle.sg_analysis.proofs.Acting.{in_frames}
use Rattle.sg_analysis.proofs.Following.{in_order}
use Rattle.sg_analysis.proofs.Formedness.{ordered_stands}
use Rattle.sg_analysis.proofs.Strays.{one_action}

-- the numbers behind frames that end at an offset
pub numbered_behind : (base at : ℕ) (frames : List (List Record)) (rs : List Record) → at ≡ gate_after 0 frames → numbered_in base (frames ++ rs ∷ []) ≡ numbered_in base frames ++ numbered_from (base + at + 5) rs
numbered_behind base at frames rs there =
    numbered_in-more base frames rs ∙ ap (λ n. numbered_in base frames ++ numbered_from (n + 5) rs) (ap (λ b. gate_after b frames) (zero_right base) ∙ (gate_moved base 0 frames ∙ ap (λ n. base + n) (sym there)))
  where
    zero_right : (b : ℕ) → b ≡ b + 0
    zero_right b = omega arith

-- a frame more may stand where its records may
pub stand_more : (base at : ℕ) (frames : List (List Record)) (rs : List Record) → at ≡ gate_after 0 frames
    → all_stand base (numbered_in base (frames ++ rs ∷ [])) ≡ (all_stand base (numbered_in base frames) && all_stand_behind base (steps_of (numbered_in base frames)) (numbered_from (base + at + 5) rs))
stand_more base at frames rs there = ap (all_stand base) (numbered_behind base at frames rs there) ∙ all_stand-both base [] (numbered_in base frames) (numbered_from (base + at + 5) rs)

pub walk_starts : (told : Bool) (area : Area) (base : ℕ) (v : View) (s : Scan) → base ≤ LOG_END → Knows s base [] → s.unended.actions.items ≡ [] → IsWalked told area base 0 v v s
walk_starts told area base v s within k none = record {
  within = omega arith;
  reads = reads_none v;
  quiet = refl;
  kept = ([], k, omega arith);
  lead = λ sure. record { frames = []; formed = tt; there = refl; stand = refl; knows = k; low = omega arith; placed = subst (AreInFrames base []) (sym none) tt; calls = omega arith };
}

-- the bytes there are those of the start
pub seen_same : {told : Bool} {v w : View} → OnlyReads told v w → IsTrue told → (area : Area) → (w.now area).seen ≡ (v.now area).seen
seen_same h sure area = ap (λ (s : State). (s area).seen) (h.unchanged sure)

pub walk_goes_on : {told : Bool} {area : Area} {base at : ℕ} {old mid new : View} {s s' : Scan} (end : ℕ) (body : List ℕ) → IsWalked told area base at old mid s → OnlyReads told mid new → new.faults ≡ mid.faults → end ≡ at + 5 + length body → base + end ≤ LOG_END
    → 0 < length body → length body ≤ GREATEST_BODY → (IsTrue told → HasBody (mid.now area).seen at body) → ((ns : List Numbered) → Knows s base ns → next_lsn (steps_of ns) ≤ base + at + 5 → AreTaken s' base ns (base + at + 5) body)
    → ((frames : List (List Record)) → AreInFrames base frames s.unended.actions.items → ArePlaced base frames at (base + at + 5) (base + at + 5 + length body) s'.unended.actions.items) → new.calls ≡ min (mid.calls + 2) FULL
    → IsWalked told area base end old new s'
walk_goes_on {told = told} {area = area} {base = base} {at = at} {old = old} {mid = mid} {new = new} {s = s} {s' = s'} end body h more quiet ends within some most stands taken placed calls = record {
  within = within;
  reads = reads_more h.reads more;
  quiet = quiet ∙ h.quiet;
  kept = let t = taken h.kept.0 h.kept.1 h.kept.2 in (h.kept.0 ++ numbered_from (base + at + 5) t.records, t.knows, omega (arith, t.low, ends));
  lead = λ sure.
      let l = h.lead sure in
      let t = taken (numbered_in base l.frames) l.knows l.low in
      let f = (old.now area).seen in
      let stand : HasBody f at body = subst (λ (x : Bytes). HasBody x at body) (seen_same h.reads sure area) (stands sure) in
      let there : IsFormed f at t.records = formed_by f at body stand some most (record { records = t.records; fields = t.fields; spelling = t.text }) in
      record {
        frames = l.frames ++ t.records ∷ [];
        formed = formed_more f 0 l.frames t.records l.formed (subst (λ n. IsFormed f n t.records) l.there there);
        there = omega (arith, ends, ap length t.text, l.there, gate_more 0 l.frames t.records, text-length (spelled_all t.records));
        stand = stand_more base at l.frames t.records l.there ∙ both_true (all_stand base (numbered_in base l.frames)) (all_stand_behind base (steps_of (numbered_in base l.frames)) (numbered_from (base + at + 5) t.records)) l.stand t.stand;
        knows = subst (Knows s' base) (sym (numbered_behind base at l.frames t.records l.there)) t.knows;
        low = subst (λ (x : List Numbered). next_lsn (steps_of x) ≤ base + end + 5) (sym (numbered_behind base at l.frames t.records l.there)) (omega (arith, t.low, ends));
        placed =
            in_frames base at l.frames t.records (base + at + 5) (base + at + 5 + length body) s'.unended.actions.items l.there (omega arith) (omega (arith, ap length t.text, text-length (spelled_all t.records))) (placed l.frames l.placed);
        calls = omega (arith, calls, l.calls, length-append l.frames (t.records ∷ []));
      };
}

-- frames that lead on are the first of all of a log
pub front_of : (f : Bytes) (at : ℕ) (lead frames : List (List Record)) → AreFormed f at lead → Frames f at frames → (rest : List (List Record)) × (frames ≡ lead ++ rest)
front_of f at [] frames h k = (frames, refl)
front_of f at (rs ∷ lead) [] h k = absurd (k h.0.gate)
front_of f at (rs ∷ lead) (ss ∷ frames) h k =
    let same = formed_one f at ss rs (record { gate = k.0; frame = k.1; text = k.2 }) h.0 in
    let more = front_of f (at + 1 + length (text_of (spelled_all rs))) lead frames h.1 (subst (λ (x : List Record). Frames f (at + 1 + length (text_of (spelled_all x))) frames) same k.3) in
    let P : List Record → List (List Record) → List (List Record) = λ x xs. x ∷ xs in
    (more.0, ap (λ (x : List Record). P x frames) same ∙ ap (P rs) more.1)

-- frames up to a closed gate are formed
pub frames_formed : (f : Bytes) (at : ℕ) (frames : List (List Record)) → Frames f at frames → AreFormed f at frames
frames_formed f at [] h = tt
frames_formed f at (rs ∷ frames) h = (record { gate = h.0; frame = h.1; text = h.2 }, frames_formed f (at + 1 + length (text_of (spelled_all rs))) frames h.3)

pub walk_ends : {told : Bool} {area : Area} {base at : ℕ} {old mid new : View} {s : Scan} → IsWalked told area base at old mid s → OnlyReads told mid new → new.faults ≡ mid.faults → (IsTrue told → (mid.now area).seen at ≡ 1 → ⊥) → new.calls ≡ min (mid.calls + 1) FULL
    → IsFound told area base old new s
walk_ends {told = told} {area = area} {base = base} {at = at} {old = old} {mid = mid} {new = new} {s = s} h more quiet shut calls =
    let f = (old.now area).seen in
    record {
      quiet = quiet ∙ h.quiet;
      kept = (h.kept.0, h.kept.1);
      found = λ sure.
          let l = h.lead sure in
          record {
            frames = l.frames;
            has = formed_closed f 0 l.frames l.formed (subst (λ (n : ℕ). f n ≡ 1 → ⊥) l.there (subst (λ (x : Bytes). x at ≡ 1 → ⊥) (seen_same h.reads sure area) (shut sure)));
            within = subst (λ n. base + n ≤ LOG_END) l.there h.within;
            stand = l.stand;
            knows = l.knows;
            placed = l.placed;
            calls = omega (arith, calls, l.calls);
          };
    }

-- a walk fails where a body can't be read,
pub walk_fails : {told : Bool} {area : Area} {base at : ℕ} {old mid new : View} {s : Scan} → IsWalked told area base at old mid s → OnlyReads told mid new → (e : LogFault) → FrameFails told area base at mid new e → AnalysisFails told area base old new (of_log e)
walk_fails h more log.Disk fails = λ top. let rose = fails top in omega (arith, h.reads.later)
walk_fails h more log.LogEnd fails = absurd fails
walk_fails {area = area} {base = base} {at = at} {old = old} h more (log.Damaged there) fails = λ sure.
    let l = h.lead sure in
    let f = (old.now area).seen in
    let u : IsUnformed f base at = subst (λ (x : Bytes). IsUnformed x base at) (seen_same h.reads sure area) (fails.1 sure) in
    record {
      frames = l.frames;
      formed = l.formed;
      within = subst (λ n. base + n ≤ LOG_END) l.there h.within;
      order = in_order base l.frames l.stand;
      cause = inl (record {
        there = fails.0 ∙ l.there;
        gate = subst (λ n. f n ≡ 1) (sym fails.0) u.gate;
        none = λ rs formed within order. u.none rs (subst (λ n. IsFormed f n rs) fails.0 formed) (subst (λ n. base + gate_after n (rs ∷ []) ≤ LOG_END) fails.0 within);
      });
    }
walk_fails h more log.Memory fails = absurd fails

-- where its records may not stand,
pub records_fail : {told : Bool} {area : Area} {base at : ℕ} {old mid new : View} {s : Scan} (body : List ℕ) → IsWalked told area base at old mid s → OnlyReads told mid new → (IsTrue told → HasBody (mid.now area).seen at body) → length body ≤ GREATEST_BODY
    → (e : AnalysisFault) → ((ns : List Numbered) → Knows s base ns → next_lsn (steps_of ns) ≤ base + at + 5 → RecordsFail base ns (base + at + 5) at body e) → AnalysisFails told area base old new e
records_fail body h more stands most Disk fails = absurd (fails h.kept.0 h.kept.1 h.kept.2)
records_fail {area = area} {base = base} {at = at} {old = old} body h more stands most (Damaged there) fails = λ sure.
    let l = h.lead sure in
    let f = (old.now area).seen in
    let k = fails (numbered_in base l.frames) l.knows l.low in
    let here : HasBody f at body = subst (λ (x : Bytes). HasBody x at body) (seen_same h.reads sure area) (stands sure) in
    record {
      frames = l.frames;
      formed = l.formed;
      within = subst (λ n. base + n ≤ LOG_END) l.there h.within;
      order = in_order base l.frames l.stand;
      cause = inl (record {
        there = k.0 ∙ l.there;
        gate = subst (λ n. f n ≡ 1) (sym k.0) here.gate;
        none = λ rs formed within order.
            let g : IsFormed f at rs = subst (λ n. IsFormed f n rs) k.0 formed in
            k.1 rs g.frame.fields (body_one f at (spelled_all rs) body (body_of_frame g) here g.frame.most most)
            (true_right (all_stand base (numbered_in base l.frames)) (all_stand_behind base (steps_of (numbered_in base l.frames)) (numbered_from (base + at + 5) rs)) (sym (stand_more base at l.frames rs l.there) ∙ ordered_stands base (numbered_in base (l.frames ++ rs ∷ [])) order));
      });
    }
records_fail body h more stands most Memory fails = tt

-- and where an action may not be without an end
pub ending_fails : {told : Bool} {area : Area} {base : ℕ} {old new : View} {s : Scan} → IsFound told area base old new s → (e : AnalysisFault) → ((frames : List (List Record)) → Knows s base (numbered_in base frames) → AreInFrames base frames s.unended.actions.items → TellsStray base frames e)
    → (e ≡ Disk → ⊥) → AnalysisFails told area base old new e
ending_fails h Disk fails no_disk = absurd (no_disk refl)
ending_fails {area = area} {base = base} {old = old} h (Damaged there) fails no_disk = λ sure.
    let l = h.found sure in
    let f = (old.now area).seen in
    record {
      frames = l.frames;
      formed = frames_formed f 0 l.frames l.has;
      within = l.within;
      order = in_order base l.frames l.stand;
      cause = inr (record { closed = gate_shut f 0 l.frames l.has; stray = fails l.frames l.knows l.placed });
    }
ending_fails h Memory fails no_disk = tt

-- what was found is what an analysis says
pub found_analysed : {told : Bool} {area : Area} {base : ℕ} {old new : View} {s : Scan} → IsFound told area base old new s → IsTrue told → (r : Result code.Analysis AnalysisFault) → ((ns : List Numbered) → Knows s base ns → IfOk r (λ a. shown a ≡ analysis_of base ns))
    → ((ns : List Numbered) → Knows s base ns → OnOk r (stray (steps_of ns) ≡ None)) → IfOk r (IsAnalysed (old.now area).seen base)
found_analysed {base = base} h sure (Ok a) says none =
    let l = h.found sure in
    let records = numbered_in base l.frames in
    let order = in_order base l.frames l.stand in
    record {
      gate = base + gate_after 0 l.frames;
      records = records;
      has = record { frames = l.frames; stand = l.has; all = refl; at_gate = refl; within = l.within };
      formed = record {
        steps = record {
          above = order.above;
          owned = order.owned;
          chained = order.chained;
          system = order.system;
          between = order.between;
          straight = order.straight;
          ended = order.ended;
          over = order.over;
          one_action = one_action (steps_of records) (none records l.knows);
        };
        plausible = order.plausible;
      };
      says = says records l.knows;
    }
found_analysed h sure (Err e) says none = tt

pub found_says : {told : Bool} {area : Area} {base : ℕ} {old new : View} {s : Scan} → IsFound told area base old new s → IsTrue told → (gate : ℕ) (ns : List Numbered) → HasRecords (old.now area).seen base gate ns → (r : Result code.Analysis AnalysisFault)
    → ((ns : List Numbered) → Knows s base ns → IfOk r (λ a. shown a ≡ analysis_of base ns)) → IfOk r (λ a. shown a ≡ analysis_of base ns)
found_says {base = base} h sure gate ns has r says =
    let l = h.found sure in
    let same = HasRecords-one (record { frames = l.frames; stand = l.has; all = refl; at_gate = refl; within = l.within }) has in
    subst (λ (x : List Numbered). IfOk r (λ a. shown a ≡ analysis_of base x)) same (says (numbered_in base l.frames) l.knows)

pub found_calls : {told : Bool} {area : Area} {base : ℕ} {old new : View} {s : Scan} → IsFound told area base old new s → IsTrue told → (frames : List (List Record)) → Frames (old.now area).seen 0 frames → new.calls ≡ min (old.calls + 1 + 2 * length frames) FULL
found_calls {area = area} {old = old} h sure frames has = let l = h.found sure in l.calls ∙ ap (λ (x : List (List Record)). min (old.calls + 1 + 2 * length x) FULL) (Frames-one (old.now area).seen 0 l.frames frames l.has has)
