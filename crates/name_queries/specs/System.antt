-- What is said of the file system whole, the same for each file (RFC 1813 sections 3.3.18 to 3.3.20).
use Rattle.std.specs.Prelude.{◌-◌, ◌^◌, true, false}
use Rattle.nfs_wire.specs.declared.res.FsStat.{FsStat}
use Rattle.nfs_wire.specs.declared.res.FsInfo.{FsInfo}
use Rattle.nfs_wire.specs.declared.res.PathConf.{PathConf}

-- FSSTAT: 2^62 bytes and 2^32 files, all of them free, and no time for which that holds
abbrev pub system_sizes : FsStat
system_sizes =
    record {
      tbytes = 2 ^ 62;
      fbytes = 2 ^ 62;
      abytes = 2 ^ 62;
      tfiles = 2 ^ 32;
      ffiles = 2 ^ 32;
      afiles = 2 ^ 32;
      invarsec = 0;
    }

-- FSINFO: transfers of 1 MiB, times to the millisecond; symbolic links, the same PATHCONF for all files, and times can be set
abbrev pub system_preferences : FsInfo
system_preferences =
    record {
      rtmax = 1048576;
      rtpref = 1048576;
      rtmult = 4096;
      wtmax = 1048576;
      wtpref = 1048576;
      wtmult = 4096;
      dtpref = 65536;
      maxfilesize = 2 ^ 63 - 1;
      time_delta = record { seconds = 0; nanos = 1000000 };
      properties = 26;
    }

-- PATHCONF: one link a file, and names of at most 255 bytes that are never cut, whose case counts
abbrev pub name_rules : PathConf
name_rules =
    record {
      linkmax = 1;
      name_max = 255;
      no_trunc = true;
      chown_restricted = true;
      case_insensitive = false;
      case_preserving = true;
    }
