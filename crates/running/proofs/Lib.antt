mod FirstParts
