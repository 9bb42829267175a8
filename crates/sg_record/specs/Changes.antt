-- The changes that a log's records hold, and their bytes.
use Rattle.std.specs.Prelude.{Bool, true, false, if◌then◌else◌, ⊤, ℕ, List, Option, None, option_map}
use Rattle.sg_base.specs.Forms.{Form, number, text, followed, pair, mapped, counted, two_counted, read_all}
use Rattle.sg_record.specs.declared.kind.Kind.{Kind}
use Rattle.sg_record.specs.declared.kind.Kind.TheVariants as kinds

-- A change of a page: the operation by its number, the slot and the registered operation's code that it names, the bytes
-- that it takes away, and those that it brings.
pub record PageChange : Type 0 where
  pub page : ℕ
  pub operation : ℕ
  pub slot : ℕ
  pub code : ℕ
  pub before : List ℕ
  pub after : List ℕ

-- a change of a part of a band to these bytes
pub record BandBytes : Type 0 where
  pub band : ℕ
  pub at : ℕ
  pub count : ℕ
  pub before : List ℕ
  pub after : List ℕ

-- a change of a part of a band to what a registered range operation gives for an argument, from a position on
pub record BandOp : Type 0 where
  pub band : ℕ
  pub at : ℕ
  pub count : ℕ
  pub code : ℕ
  pub position : ℕ
  pub arg : List ℕ
  pub before : List ℕ

pub data Change : Type 0 where
  Page : PageChange → Change
  SegWrite : BandBytes → Change
  SegOp : BandOp → Change

-- a page's number, an operation, a slot and a code, and two texts behind both their lengths
abbrev pub page_layout : Form (ℕ × (ℕ × (ℕ × (ℕ × (List ℕ × List ℕ)))))
page_layout = pair (number 4) (pair (number 1) (pair (number 2) (pair (number 2) (two_counted 2))))

abbrev pub page_made : ℕ × (ℕ × (ℕ × (ℕ × (List ℕ × List ℕ)))) → PageChange
page_made p = record { page = p.0; operation = p.1.0; slot = p.1.1.0; code = p.1.1.1.0; before = p.1.1.1.1.0; after = p.1.1.1.1.1 }

abbrev pub page_parts : PageChange → ℕ × (ℕ × (ℕ × (ℕ × (List ℕ × List ℕ))))
page_parts c = (c.page, (c.operation, (c.slot, (c.code, (c.before, c.after)))))

abbrev pub page_form : Form PageChange
page_form = mapped page_made page_parts page_layout

-- a band's number, a place and a count, and two texts, of which the count says the lengths
abbrev pub bytes_layout : (before after : ℕ → ℕ) → Form ((ℕ × (ℕ × ℕ)) × (List ℕ × List ℕ))
bytes_layout before after = followed (pair (number 4) (pair (number 4) (number 4))) (λ n. pair (text (before n.1.1)) (text (after n.1.1)))

abbrev pub bytes_made : (ℕ × (ℕ × ℕ)) × (List ℕ × List ℕ) → BandBytes
bytes_made p = record { band = p.0.0; at = p.0.1.0; count = p.0.1.1; before = p.1.0; after = p.1.1 }

abbrev pub bytes_parts : BandBytes → (ℕ × (ℕ × ℕ)) × (List ℕ × List ℕ)
bytes_parts c = ((c.band, (c.at, c.count)), (c.before, c.after))

-- as many bytes before as the count says, or none where the change takes another one off, and as many after as the count says
abbrev pub band_form : (taking_off : Bool) → Form BandBytes
band_form taking_off = mapped bytes_made bytes_parts (bytes_layout (λ count. if taking_off then 0 else count) (λ count. count))

-- as many bytes before and after as the count says
abbrev pub write_form : Form BandBytes
write_form = band_form false

-- none before, and after as many as the count says
abbrev pub rewrite_form : Form BandBytes
rewrite_form = band_form true

-- a band's number, a place and a count, a code and a position, and two texts, each behind its length
abbrev pub op_layout : Form (ℕ × (ℕ × (ℕ × (ℕ × (ℕ × (List ℕ × List ℕ))))))
op_layout = pair (number 4) (pair (number 4) (pair (number 4) (pair (number 2) (pair (number 4) (pair (counted 2) (counted 4))))))

abbrev pub op_made : ℕ × (ℕ × (ℕ × (ℕ × (ℕ × (List ℕ × List ℕ))))) → BandOp
op_made p = record { band = p.0; at = p.1.0; count = p.1.1.0; code = p.1.1.1.0; position = p.1.1.1.1.0; arg = p.1.1.1.1.1.0; before = p.1.1.1.1.1.1 }

abbrev pub op_parts : BandOp → ℕ × (ℕ × (ℕ × (ℕ × (ℕ × (List ℕ × List ℕ)))))
op_parts c = (c.band, (c.at, (c.count, (c.code, (c.position, (c.arg, c.before))))))

abbrev pub op_form : Form BandOp
op_form = mapped op_made op_parts op_layout

-- the kind of the record that holds the change
abbrev pub change_kind : Change → Kind
change_kind (Page c) = kinds.Page
change_kind (SegWrite c) = kinds.SegWrite
change_kind (SegOp c) = kinds.SegOp

-- its bytes there; with `write` for those of a write of a band's bytes
abbrev pub change_bytes : Form BandBytes → Change → List ℕ
change_bytes write (Page c) = page_form.spell c
change_bytes write (SegWrite c) = write.spell c
change_bytes write (SegOp c) = op_form.spell c

-- the fields and lengths have such bytes
abbrev pub ChangeFits : Form BandBytes → Change → Type 0
ChangeFits write (Page c) = page_form.Fits c
ChangeFits write (SegWrite c) = write.Fits c
ChangeFits write (SegOp c) = op_form.Fits c

-- its lengths fit where they are written: all but those that a count says
abbrev pub HasLengths : Change → Type 0
HasLengths (Page c) = page_form.Fits c
HasLengths (SegWrite c) = ⊤
HasLengths (SegOp c) = op_form.Fits c

-- the change of this kind that some bytes spell
abbrev pub read_change : Form BandBytes → Kind → List ℕ → Option Change
read_change write kinds.Page bytes = option_map Page (read_all page_form bytes)
read_change write kinds.SegWrite bytes = option_map SegWrite (read_all write bytes)
read_change write kinds.SegOp bytes = option_map SegOp (read_all op_form bytes)
read_change write _ bytes = None
