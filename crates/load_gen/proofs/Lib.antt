mod Shuffles
mod MessageLines
mod Messages
mod Excerpts
mod CallLaws
mod Rows
