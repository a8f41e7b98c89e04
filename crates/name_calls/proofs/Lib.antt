pub mod FrontMounts
