-- What an error of the system means for a folder.
use Rattle.std.specs.declared.io.ErrorKind.{ErrorKind}
use Rattle.std.specs.declared.io.ErrorKind.TheVariants.{NotFound, NotADirectory, PermissionDenied, OutOfMemory}
use Rattle.store_host.specs.declared.folder.FolderFault.{FolderFault}
use Rattle.store_host.specs.declared.folder.FolderFault.TheVariants.{Missing, NotAFolder, Denied, Memory, Failed}

abbrev pub folder_fault : ErrorKind → FolderFault
folder_fault NotFound = Missing
folder_fault NotADirectory = NotAFolder
folder_fault PermissionDenied = Denied
folder_fault OutOfMemory = Memory
folder_fault _ = Failed
