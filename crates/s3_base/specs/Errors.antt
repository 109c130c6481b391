-- The error numbers of POSIX `errno.h` that operations are refused with, by their names there (and `enodata` by Linux).
use Rattle.std.specs.Prelude.{ℕ}

-- operation not permitted
abbrev pub eperm : ℕ
eperm = 1

-- no such file or directory
abbrev pub enoent : ℕ
enoent = 2

-- argument list too long
abbrev pub e2big : ℕ
e2big = 7

-- bad file descriptor
abbrev pub ebadf : ℕ
ebadf = 9

-- file exists
abbrev pub eexist : ℕ
eexist = 17

-- not a directory
abbrev pub enotdir : ℕ
enotdir = 20

-- is a directory
abbrev pub eisdir : ℕ
eisdir = 21

-- invalid argument
abbrev pub einval : ℕ
einval = 22

-- file too large
abbrev pub efbig : ℕ
efbig = 27

-- no space left on device
abbrev pub enospc : ℕ
enospc = 28

-- file name too long
abbrev pub enametoolong : ℕ
enametoolong = 36

-- function not implemented
abbrev pub enosys : ℕ
enosys = 38

-- directory not empty
abbrev pub enotempty : ℕ
enotempty = 39

-- no data available
abbrev pub enodata : ℕ
enodata = 61
