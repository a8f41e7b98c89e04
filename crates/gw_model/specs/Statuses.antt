-- The numbers of the statuses of NFS version 3 (RFC 1813 section 2.6), by their names without NFS3ERR.
use Rattle.std.specs.Prelude.{ℕ}

abbrev pub ok : ℕ
ok = 0

abbrev pub perm : ℕ
perm = 1

abbrev pub noent : ℕ
noent = 2

abbrev pub io : ℕ
io = 5

abbrev pub acces : ℕ
acces = 13

abbrev pub exist : ℕ
exist = 17

abbrev pub notdir : ℕ
notdir = 20

abbrev pub isdir : ℕ
isdir = 21

abbrev pub inval : ℕ
inval = 22

abbrev pub fbig : ℕ
fbig = 27

abbrev pub rofs : ℕ
rofs = 30

abbrev pub nametoolong : ℕ
nametoolong = 63

abbrev pub notempty : ℕ
notempty = 66

abbrev pub stale : ℕ
stale = 70

abbrev pub badhandle : ℕ
badhandle = 10001

abbrev pub not_sync : ℕ
not_sync = 10002

abbrev pub bad_cookie : ℕ
bad_cookie = 10003

abbrev pub notsupp : ℕ
notsupp = 10004

abbrev pub toosmall : ℕ
toosmall = 10005

abbrev pub serverfault : ℕ
serverfault = 10006

abbrev pub badtype : ℕ
badtype = 10007

abbrev pub jukebox : ℕ
jukebox = 10008
