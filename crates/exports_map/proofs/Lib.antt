mod Items
mod Numbers
mod Separators
