-- The numbers of the standard streams.
use Rattle.std.specs.Prelude.{pos, ◌<ℤ◌}
use Rattle.std.specs.declared.fs.File.{File}
use Rattle.std.specs.Fd.{file_raw_fd}

-- the file's number is none of those of standard input, output and error: 0, 1 and 2
abbrev pub IsApart : File → Type 0
IsApart file = pos 2 <ℤ file_raw_fd file
