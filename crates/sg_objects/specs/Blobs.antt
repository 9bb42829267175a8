-- What a search for the blob of a name tells, and what a look at a verb on it.
use Rattle.std.specs.Prelude.{◌≡◌, ℕ, ◌+◌, ◌<◌, ◌≤◌, IsSome, List, length, Result, Ok, Err}
use Rattle.sg_ops.specs.Table.{Table as Operations, range_at}
use Rattle.sg_blob.specs.Blob.{Blob}
use Rattle.sg_catalog.specs.declared.row.ObjectKind.TheVariants as kinds
use Rattle.sg_model.specs.declared.reason.Reason.{Reason}
use Rattle.sg_contents.specs.Standing.{Contents}
use Rattle.sg_contents.specs.Standing.Body.{ABlob}
use Rattle.sg_objects.specs.Found.{IsAt, IsMissing}
use Rattle.sg_objects.specs.declared.blob.BlobAt.{BlobAt}

-- a blob stands under the name, with this root and length
pub record IsBlobAt (name : List ℕ) (s : Contents) (x : BlobAt) : Type 0 where
  pub at : IsAt kinds.Blob s name x.root.0
  pub blob : Blob
  pub body_is : s.body x.root.0 ≡ ABlob blob
  pub len_is : x.len ≡ length blob.bytes

abbrev pub IsBlobFound : List ℕ → Contents → Result BlobAt Reason → Type 0
IsBlobFound name s (Ok x) = IsBlobAt name s x
IsBlobFound name s (Err reason) = IsMissing kinds.Blob s name reason

-- so many bytes may be written from byte `at` on
pub record CanWriteTo (name : List ℕ) (at count : ℕ) (s : Contents) (x : BlobAt) : Type 0 where
  pub found : IsBlobAt name s x
  pub few : count ≤ 8192
  pub small : at + count ≤ 16384000
  pub from : at ≤ x.len

-- so many bytes stand there from byte `at` on
pub record CanReadFrom (name : List ℕ) (at count : ℕ) (s : Contents) (x : BlobAt) : Type 0 where
  pub found : IsBlobAt name s x
  pub few : count ≤ 8192
  pub within : at + count ≤ x.len

-- the length may become this one
pub record CanSizeTo (name : List ℕ) (size : ℕ) (s : Contents) (x : BlobAt) : Type 0 where
  pub found : IsBlobAt name s x
  pub small : size ≤ 16384000

-- a registered range operation may write so many bytes from byte `at` on
pub record CanPaintOn (t : Operations) (name : List ℕ) (at count code : ℕ) (arg : List ℕ) (s : Contents) (x : BlobAt) : Type 0 where
  pub found : IsBlobAt name s x
  pub within : at + count ≤ x.len
  pub short : length arg ≤ 256
  pub small : code < 65536
  pub known : IsSome (range_at t code)
