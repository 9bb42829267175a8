-- The record that says where the root is, written and read back.
use Rattle.std.proofs.Common.{◌≡◌, ℕ, ◌<◌, ◌≤◌, ◌^◌, List, [], ◌++◌, Option, Some, Result, Ok, Err, refl, sym, ap, ◌∙◌, arith}
use Rattle.std.specs.Prelude.{option_and_then}
use Rattle.std.specs.Result.{OnOk}
use Rattle.sg_index.specs.Change.{IsHeaded}
use Rattle.byteorder.specs.Endian.{little_bytes}
use Rattle.sg_index.specs.declared.header.Header.{Header}
use Rattle.sg_index.specs.Records.{Map, Puts}
use Rattle.sg_index.specs.Index.{header_key, read_header, header_at, spelled_header}
use Rattle.sg_index.proofs.Back.{number_back}
use Rattle.sg_index.proofs.Looking.{header_some}

pub record IsHeader (h : Header) : Type 0 where
  pub root : h.root < 2 ^ 32
  pub next : h.next < 2 ^ 32
  pub low : 1 ≤ h.height
  pub high : h.height ≤ 16

pub header_back : (h : Header) → IsHeader h → read_header (spelled_header h) ≡ Some h
unfolding spelled_header
header_back h fits =
    let three : List ℕ = little_bytes 1 h.height ++ [] in
    let two : List ℕ = little_bytes 4 h.next ++ three in
    sym (header_some (little_bytes 4 h.root ++ two) h.root two (number_back 4 h.root two (omega (arith, fits.root))) h.next three (number_back 4 h.next three (omega (arith, fits.next))) h.height [] (number_back 1 h.height [] (omega (arith, fits.high))) fits.low fits.high refl)

-- a header that was written stands there
pub header_written : (old new : Map) (h : Header) → IsHeader h → Puts old header_key (spelled_header h) new → header_at new ≡ Some h
unfolding header_at
header_written old new h fits put = ap (λ (o : Option (List ℕ)). option_and_then read_header o) put.there ∙ header_back h fits

pub header_kept : (old new : Map) → new header_key ≡ old header_key → header_at new ≡ header_at old
unfolding header_at
header_kept old new e = ap (λ (o : Option (List ℕ)). option_and_then read_header o) e

pub headed_by : {F : Type 0} (old new : Map) (h : Header) (next : ℕ) → h.root < 2 ^ 32 → next < 2 ^ 32 → 1 ≤ h.height → h.height ≤ 16 → (r : Result (Unit {0}) F) → OnOk r (Puts old header_key (spelled_header (record { root = h.root; next = next; height = h.height })) new) → OnOk r (IsHeaded old new (record { root = h.root; next = next; height = h.height }))
headed_by old new h next root small low high (Ok x) put = record {
  header_is = header_written old new (record { root = h.root; next = next; height = h.height }) (record { root = root; next = small; low = low; high = high }) put;
  others = put.others;
}
headed_by old new h next root small low high (Err e) put = tt
