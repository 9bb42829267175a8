-- Where a log ends, read from its bytes: a function of the image.
use Rattle.std.specs.Prelude.{◌+◌, ◌==◌, ℕ, zero, suc, if◌then◌else◌}
use Rattle.byteorder.specs.Endian.{little_number}
use Rattle.sg_disk.specs.Disk.{Bytes, Image, window}
use Rattle.sg_find.specs.Synced.{log_area}
use Rattle.sg_log.specs.Frames.{LOG_END}
use Rattle.sg_phys_laws.specs.Recovers.{super_in}

-- the number of the byte where an area's frames end, from an offset on, of at most so many frames. The area's first byte has the number base
unfoldable pub frames_end : (most : ℕ) → (f : Bytes) → (base at : ℕ) → ℕ
frames_end zero f base at = base + at
frames_end (suc n) f base at = if f at == 1 then frames_end n f base (at + 5 + little_number 4 (window f (at + 1) 4)) else base + at

-- WHERE AN IMAGE'S LOG ENDS, by its superblock and the frames of its log: the number of the byte behind the last frame
abbrev pub end_in : Image → ℕ
end_in c = frames_end LOG_END (c (log_area (super_in c))) (super_in c).base 0
